-- What a broker answers to a query.
use Rattle.std.specs.Prelude.{◌≡◌, ◌≢◌, ◌⊎◌, ⊤, ℕ, List, [], ◌∷◌, Ok, Err}
use Rattle.druid_inventory.specs.Entry.{Entry}
use Rattle.druid_query.specs.Query.{Query}
use Rattle.druid_query.specs.Asked.{Asked}
use Rattle.druid_query.specs.Read.{IsReadOf}
use Rattle.druid_query.specs.Refused.{refusal_text}
use Rattle.druid_query.specs.declared.fault.QueryFault.{QueryFault}
use Rattle.druid_query.specs.declared.fault.QueryFault.TheVariants.{Field, Memory}
use Rattle.druid_partial.specs.Groups.{Group}
use Rattle.druid_partial_text.specs.Written.{result_text}
use Rattle.druid_partial_text.specs.Answers.{shortfall_text}
use Rattle.druid_broker_scatter.specs.Plan.{Pair, IsPlanOf}
use Rattle.druid_broker_scatter.specs.Gathered.{Exchange, AreMade, AreAsked, IsGathered}
use Rattle.druid_link.specs.Links.{Came}
use Rattle.druid_http_wire.specs.Served.{Reports}

-- the rows are whole, or what is missing is listed beside them
abbrev pub ReportsRows : Query → List Asked → List Group → ℕ → List ℕ → Type 0
ReportsRows query [] groups status body = Reports 200 (result_text query groups) status body
ReportsRows query (a ∷ more) groups status body = Reports 503 (shortfall_text query (a ∷ more) groups) status body

-- what is gathered over the links for the plan of the query
pub record AnswersRows {L : Type 0} (step : L → List ℕ → Came → L → Type 0) (order : List ℕ → List ℕ) (inventory : List Entry) (query : Query) (old new : List L) (status : ℕ) (body : List ℕ) : Type 0 where
  pub pairs : List Pair
  pub plan : IsPlanOf inventory query pairs
  pub exchanges : List Exchange
  pub made : AreMade step query exchanges old new
  pub missing : List Asked
  pub groups : List Group
  pub gathered : IsGathered order query pairs exchanges missing groups
  pub reported : ReportsRows query missing groups status body

-- the bytes read as a query, or are refused as one, and then no link is used
abbrev pub AnswersQuery : {L : Type 0} → (L → List ℕ → Came → L → Type 0) → (List ℕ → List ℕ) → List Entry → List ℕ → List L → List L → ℕ → List ℕ → Type 0
AnswersQuery step order inventory bytes old new status body =
    ((query : Query) × IsReadOf bytes (Ok query) × AnswersRows step order inventory query old new status body)
    ⊎ ((fault : QueryFault) × (fault ≢ Memory) × IsReadOf bytes (Err fault) × Reports 400 (refusal_text fault) status body × (new ≡ old))

-- ---- out of memory

-- the refusal names a field
abbrev pub NamesField : QueryFault → Type 0
NamesField (Field key) = ⊤
NamesField fault = ⊥

-- for a query that reads: what was asked is of its plan, each piece of its nodes alone, of each once at most and in their order
pub record AsksRows {L : Type 0} (step : L → List ℕ → Came → L → Type 0) (order : List ℕ → List ℕ) (inventory : List Entry) (query : Query) (old new : List L) : Type 0 where
  pub pairs : List Pair
  pub plan : IsPlanOf inventory query pairs
  pub exchanges : List Exchange
  pub made : AreMade step query exchanges old new
  pub asked : AreAsked order query pairs exchanges

-- to read the bytes, or to write which field they are refused for, and then no link is used; or for the query that they read as
abbrev pub WantsMemory : {L : Type 0} → (L → List ℕ → Came → L → Type 0) → (List ℕ → List ℕ) → List Entry → List ℕ → List L → List L → Type 0
WantsMemory step order inventory bytes old new =
    (IsReadOf bytes (Err Memory) × (new ≡ old))
    ⊎ ((fault : QueryFault) × NamesField fault × IsReadOf bytes (Err fault) × (new ≡ old))
    ⊎ ((query : Query) × IsReadOf bytes (Ok query) × ((new ≡ old) ⊎ AsksRows step order inventory query old new))
