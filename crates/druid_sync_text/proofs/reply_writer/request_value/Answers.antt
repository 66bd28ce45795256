use Rattle.std.proofs.Common.{◌∙◌, ap}
use Rattle.serde_json.specs.Data.{object}
use Rattle.serde_json.specs.View.{view, members_view}
use Rattle.serde_json.proofs.Views.{view-Object}
use Rattle.druid_sync_text.proofs.TextLemmas.{request_members}
use Rattle.druid_sync_text.proofs.reply_writer.request_value.Goals as goal

pub returns-clause-value : goal.returns-clause-value
returns-clause-value c =
    view-Object c.put_action.new.members ∙ ap object c.in_ok-put_action.ensures
    ∙ request_members c.args.action.now c.args.descriptor.now (view c.in_ok-request.request) (members_view c.in-Some.members.now.entries) c.in_ok-request.ensures c.in-Some.ensures.value
