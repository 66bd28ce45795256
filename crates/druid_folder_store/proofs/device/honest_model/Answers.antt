use Rattle.druid_folder_store.proofs.Model.{honest_model_lem}
use Rattle.druid_folder_store.proofs.device.honest_model.Goals as goal

pub returns : goal.returns
returns c = honest_model_lem
