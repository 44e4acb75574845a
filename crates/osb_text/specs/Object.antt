-- The values that an `Object` and an `ObjectRef` are.
use Rattle.serde_json.specs.Data.{Data}
use Rattle.serde_json.specs.View.{view}
use Rattle.osb_text.specs.declared.object.Object.{Object}
use Rattle.osb_text.specs.declared.object.ObjectRef.{ObjectRef}

abbrev pub object_data : Object → Data
object_data object = view object.value

abbrev pub ref_data : ObjectRef → Data
ref_data object = view object.value.now
