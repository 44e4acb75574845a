-- Which context belongs to which order or row. For contracts inside the crate.
use Rattle.std.specs.Prelude.{Bool, ◌&&◌, ◌||◌, ◌==◌, length, is_some, bytes_eq}
use Rattle.osb_audit.specs.Orders.{Entry}
use Rattle.osb_audit.specs.Instances.{InstanceEntry}
use Rattle.osb_joined.specs.declared.entry.ContextEntry.{ContextEntry}

-- the context is of this order
abbrev pub fits_order : ContextEntry → Entry → Bool
fits_order context entry = bytes_eq context.instance entry.0 && (context.number == entry.1.number)

-- it is of this row; what is absent has no context
abbrev pub fits_row : ContextEntry → InstanceEntry → Bool
fits_row context entry =
    bytes_eq context.instance entry.0 && (is_some entry.1.standing || (length context.context == 0))
