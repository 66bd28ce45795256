-- Replies that are read back.
use Rattle.std.specs.Prelude.{◌≡◌, Some}
use Rattle.serde_json.specs.Read.{read}
use Rattle.druid_segment_descriptor.specs.ReplyBody.{IsReply}
use Rattle.druid_segment_descriptor.specs.declared.reply.Body.{Body}
use Rattle.druid_sync_text.specs.Written.{reply_data, reply_text}
use Rattle.druid_sync_text.specs.Read.{form_at, form_of}

-- the text of the reply is its JSON, which has its form: who reads the text gets the reply
pub record IsReadBack (body : Body) : Type 0 where
  pub valid : IsReply body
  pub text : read (reply_text body) ≡ Some (reply_data body)
  pub form : form_at (reply_data body) ≡ Some (form_of body)
