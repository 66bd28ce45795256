use Rattle.std.proofs.Common.{◌∙◌, ℕ, List, codes, ap}
use Rattle.serde_json.specs.Data.{Data, string, put}
use Rattle.serde_json.specs.View.{view, members_view}
use Rattle.serde_json.proofs.Views.{members_view-insert_entry}
use Rattle.druid_sync_text.proofs.reply_writer.put_action.Goals as goal

pub returns : goal.returns
returns c =
    let old = c.args.members.now.entries in
    ap members_view c.in_ok-insert.ensures.entries ∙ members_view-insert_entry old c.in_ok-key.key c.from-action.result
    ∙ ap (λ (k : List ℕ). put k (view c.from-action.result) (members_view old)) c.in_ok-key.ensures.ok
    ∙ ap (λ (d : Data). put (codes "action") d (members_view old)) c.from-action.ensures
    ∙ ap (λ (bytes : List ℕ). put (codes "action") (string bytes) (members_view old)) c.in_ok-from_str.ensures.ok
