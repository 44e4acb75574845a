use Rattle.osb_text.proofs.Orders.{order-object_of}
use Rattle.osb_text.proofs.laws.in_byte_order.Goals as goal

pub returns : goal.returns
returns c = order-object_of
