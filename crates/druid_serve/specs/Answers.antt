-- What a worker of a broker answers.
use Rattle.std.specs.Prelude.{◌≡◌, ℕ, List, Option}
use Rattle.druid_inventory.specs.Entry.{Entry}
use Rattle.druid_inventory_views.specs.Fold.{Published}
use Rattle.druid_link.specs.Links.{Came}
use Rattle.druid_link.specs.TcpLinks.{ExchangesOverTcp}
use Rattle.druid_http_message.specs.Requests.{RequestValue}
use Rattle.druid_broker_scatter.specs.Order.{turned, ailing_last}
use Rattle.druid_http_wire.specs.Served.{IsServed}
use Rattle.druid_broker.specs.Views.{RespondsBy}
use Rattle.druid_serve.specs.Links.{NodeLinkValue}

-- the exchanges of a link that is noted are those of the link
abbrev pub Over : NodeLinkValue → List ℕ → Came → NodeLinkValue → Type 0
Over before request came after = ExchangesOverTcp before.link request came after.link

-- by a view and links, which were so before and after, replicas in this order
abbrev pub Responds : (List ℕ → List ℕ) → List Entry → Published → Published → List NodeLinkValue → List NodeLinkValue → RequestValue → ℕ → List ℕ → Type 0
Responds order opening seen now old new = RespondsBy Over order opening seen now old new

-- an answer was written; at a worker's turn replicas are in the order of that turn, those on some nodes last
abbrev pub IsServedBy : List Entry → ℕ → Published → Published → List NodeLinkValue → List NodeLinkValue → Option (List ℕ) → Option (List ℕ) → Option (List ℕ) → Option (List ℕ) → ℕ → Type 0
IsServedBy opening turn seen now old new before after had has sent =
    (last : ℕ) × IsServed (Responds (λ nodes. ailing_last last (turned turn nodes)) opening seen now old new) ((now ≡ seen) × (new ≡ old)) before after had has sent
