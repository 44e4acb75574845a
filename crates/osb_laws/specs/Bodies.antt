-- The body of each answer is a JSON object (RFC 8259, section 4).
use Rattle.std.specs.Prelude.{◌≡◌, true}
use Rattle.serde_json.specs.Data.{Data, object, Members}
use Rattle.serde_json.specs.Written.{compact_text}
use Rattle.osb_text.specs.Names.{Json}
use Rattle.osb_text.specs.Order.{IsInByteOrder}
use Rattle.osb_text.specs.Whole.{is_whole}
use Rattle.osb_text.specs.ObjectText.{IsReadable}
use Rattle.osb_replies.specs.declared.fixed_error.FixedError.{FixedError}
use Rattle.osb_replies.specs.FixedError.{fixed_body}
use Rattle.osb_catalog.specs.Catalog.{catalog_text}
use Rattle.osb_catalog.specs.Rules.{Rules}
use Rattle.osb_catalog.specs.Sound.{AreSound}
use Rattle.osb_asks.specs.declared.ask.Ask.{Ask}
use Rattle.osb_orders.specs.Lives.{Lives}
use Rattle.osb_orders.specs.IsLife.{IsLives}
use Rattle.osb_machine.specs.Machine.{answer_to}

-- the compact text of an object, in which each object has its names in byte order, each once, and numbers are whole
pub record IsObjectBody (body : Json) : Type 0 where
  pub members : Members
  pub text : body ≡ compact_text (object members)
  pub ordered : IsInByteOrder (object members)
  pub whole : is_whole (object members) ≡ true

-- whatever is asked, from well-formed lives, by sound settings whose catalog is one
abbrev pub BodiesAreObjects : Type 0
BodiesAreObjects = (rules : Rules) (lives : Lives) (ask : Ask) → AreSound rules →
    IsObjectBody rules.catalog → IsLives lives → IsObjectBody (answer_to rules lives ask).body

-- those of errors, whatever was asked
abbrev pub ErrorsAreObjects : Type 0
ErrorsAreObjects = (error : FixedError) → IsObjectBody (fixed_body error)

-- the catalog of a settings file that was read is one
abbrev pub CatalogsAreObjects : Type 0
CatalogsAreObjects = (file : Data) → IsReadable file → IsObjectBody (catalog_text file)
