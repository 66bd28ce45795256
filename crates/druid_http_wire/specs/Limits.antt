-- The limits of HTTP messages here, as numbers.
use Rattle.std.specs.Prelude.{ℕ, ◌+◌}
use Rattle.druid_http_message.specs.declared.fault.WireFault.{WireFault}
use Rattle.druid_http_message.specs.declared.fault.WireFault.TheVariants.{Cut, Read, Write, BadHead, HeadTooLong, NoLength, BodyTooLong, Connect, Memory}

-- the most bytes of a head, counted from the first byte that is read: blank lines before it count too
abbrev pub max_head : ℕ
max_head = 16384

-- the most fields of a head
abbrev pub max_fields : ℕ
max_fields = 64

-- the most bytes of a body
abbrev pub max_body : ℕ
max_body = 16777216

-- the most digits of a `Content-Length`
abbrev pub max_digits : ℕ
max_digits = 20

-- the most bytes that are taken of a reader where no message is read: where its head is refused, no more than the head may have and
-- two bytes, which tell that it is too long
abbrev pub most_taken : WireFault → ℕ
most_taken Cut = max_head + max_body
most_taken Read = max_head + max_body
most_taken Write = max_head + max_body
most_taken BadHead = max_head + 2
most_taken HeadTooLong = max_head + 2
most_taken NoLength = max_head + 2
most_taken BodyTooLong = max_head + 2
most_taken Connect = max_head + max_body
most_taken Memory = max_head + max_body
