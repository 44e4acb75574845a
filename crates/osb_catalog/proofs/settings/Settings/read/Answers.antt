use Rattle.std.proofs.Common.{sym, subst}
use Rattle.serde_json.specs.Data.{Data}
use Rattle.osb_text.specs.Object.{object_data}
use Rattle.osb_text.specs.ObjectText.{IsReadable}
use Rattle.osb_text.proofs.ReadableLemmas.{readable}
use Rattle.osb_catalog.proofs.settings.Settings.read.Goals as goal

pub read_contents-requires-clause-readable : goal.read_contents-requires-clause-readable
read_contents-requires-clause-readable c = subst (λ (v : Data). IsReadable v) (sym c.value-2.ensures.same) (readable c.args.file.now (object_data c.in-Ok.object) c.in-Ok.ensures.ok)
