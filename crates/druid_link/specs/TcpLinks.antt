-- A link over sockets, and what comes back over it.
use Rattle.std.specs.Prelude.{◌≡◌, ◌≤◌, ℕ, List, [], ◌∷◌, length, Option, IfOk, IfErr, IfSome}
use Rattle.std.specs.Io.KnownBytes.{Appends}
use Rattle.std.specs.declared.time.Duration.{Duration}
use Rattle.druid_link.specs.Exchanged.{Exchanged}
use Rattle.druid_link.specs.Links.{Came, IsLinkFault, faults_after}
use Rattle.druid_link.specs.Limits.{max_exchange}

-- the text of its address, the longest that an exchange may take, how many exchanges failed (at 2^64 - 1 it stays), and the exchanges
-- that were made over it, the newest first
pub record TcpLinkValue : Type 0 where
  pub address : List ℕ
  pub limit : Duration
  pub failed : ℕ
  pub made : List Exchanged

-- no exchange was made
abbrev pub fresh_tcp_link : List ℕ → TcpLinkValue
fresh_tcp_link address = record { address = address; limit = record { secs = 30; nanos = 0 }; failed = 0; made = [] }

-- the same link with another limit
abbrev pub limited : TcpLinkValue → Duration → TcpLinkValue
limited link limit = record link { limit = limit }

-- the link after an exchange of this request which gave this
abbrev pub over_tcp : TcpLinkValue → List ℕ → Came → TcpLinkValue
over_tcp link request came =
    record link { failed = faults_after came link.failed; made = record { request = request; came = came } ∷ link.made }

-- an exchange over a stream, where its bytes are known: the request was appended whole, and what the stream had left once it was sent
-- is the answer
pub record IsExchanged {S : Type 0} (contents remaining : S → Option (List ℕ)) (before : S) (request answer : List ℕ) : Type 0 where
  pub sent : S
  pub written : Appends (contents before) (contents sent) request
  pub whole : IfSome (remaining sent) (λ left. answer ≡ left)

-- an exchange may give whatever a link may give, and the link keeps it: of what sockets give nothing else is claimed
abbrev pub ExchangesOverTcp : TcpLinkValue → List ℕ → Came → TcpLinkValue → Type 0
ExchangesOverTcp before request came after =
    (after ≡ over_tcp before request came) × IfOk came (λ bytes. length bytes ≤ max_exchange) × IfErr came IsLinkFault
