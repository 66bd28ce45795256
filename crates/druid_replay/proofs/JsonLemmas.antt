-- What a JSON list shows of its items.
use Rattle.serde_json.proofs.Views.{view-Array}

pub ruleset json_lists = (view-Array)
