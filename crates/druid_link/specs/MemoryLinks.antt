-- A link in memory, and what comes back over it.
use Rattle.std.specs.Prelude.{◌≡◌, ◌⊎◌, ℕ, List, [], length, nat_le, unwrap_or, slice_get, if◌then◌else◌, Ok, Err, IsOk}
use Rattle.druid_link.specs.Links.{Came, one_more, faults_after}
use Rattle.druid_http_message.specs.declared.fault.WireFault.TheVariants.{Read, BodyTooLong, Memory}
use Rattle.druid_link.specs.Limits.{max_exchange}

-- the replies to its first exchanges, from which exchange on it fails, how many were made (at 2^64 - 1 it stays), and how many failed
pub record MemoryLinkValue : Type 0 where
  pub replies : List (List ℕ)
  pub fuse : ℕ
  pub made : ℕ
  pub failed : ℕ

-- no exchange was made
abbrev pub fresh_link : List (List ℕ) → ℕ → MemoryLinkValue
fresh_link replies fuse = record { replies = replies; fuse = fuse; made = 0; failed = 0 }

-- the reply to an exchange, counted from 0, which is empty where there is none
abbrev pub reply_to : List (List ℕ) → ℕ → List ℕ
reply_to replies number = unwrap_or (slice_get replies number) []

-- more bytes than an exchange gives are none
abbrev pub whole_reply : List ℕ → Came
whole_reply reply = if nat_le (length reply) max_exchange then Ok reply else Err BodyTooLong

-- what the next exchange gives, whatever is sent
abbrev pub next_reply : MemoryLinkValue → Came
next_reply link = if nat_le link.fuse link.made then Err Read else whole_reply (reply_to link.replies link.made)

-- an exchange more was made, which gave this
abbrev pub exchanged : MemoryLinkValue → Came → MemoryLinkValue
exchanged link came = record link { made = one_more link.made; failed = faults_after came link.failed }

-- an exchange gives what is next; or memory for its reply was refused, and nothing was done
abbrev pub ExchangesInMemory : MemoryLinkValue → List ℕ → Came → MemoryLinkValue → Type 0
ExchangesInMemory before request came after =
    ((came ≡ next_reply before) × (after ≡ exchanged before came))
    ⊎ ((came ≡ Err Memory) × IsOk (next_reply before) × (after ≡ before))
