-- The response that carries metrics.
use Rattle.std.specs.Prelude.{ℕ, List, [], ◌∷◌, codes, decimal, length}
use Rattle.druid_telemetry_metrics.specs.Text.{in_turn}

abbrev pub before_length : List ℕ
before_length = codes "HTTP/1.1 200 OK\r\nContent-Type: text/plain; version=0.0.4; charset=utf-8\r\nContent-Length: "

abbrev pub response_text : List ℕ → List ℕ
response_text body = in_turn (before_length ∷ decimal (length body) ∷ codes "\r\nConnection: close\r\n\r\n" ∷ body ∷ [])
