-- `files::setup_in` meets its contract: the settings are those of the data of the setup record.
-- Assumes nothing.
use mathlib.Core.Path.{sym, ◌∙◌}
use Rattle.files.proofs.Laws.{begins_with}
use Rattle.files.proofs.setup_in.Goals as goal

pub returns-in-Ok-Some : goal.returns-in-Ok-Some
returns-in-Ok-Some c = begins_with c.args.head.now _ _ c.settings.result (sym c.read_record.ensures ∙ (rw c.in-Ok-Some.field-0-is at c.in-Ok-Some.is)) c.data_of.ensures c.settings.ensures
