-- Lives are equal in one way, and so is each life.
use base.Stored.{Coded-set}
use Rattle.std.specs.Coded.{coded_list, coded_ℕ}
use Rattle.std.specs.FinMap.{code}
use Rattle.osb_orders.specs.contracts.order.Order as order
use Rattle.osb_orders.specs.Life.{Life}
use Rattle.osb_orders.specs.Lives.{Lives}

pub Lives-set : IsSet Lives
Lives-set = Coded-set (code (coded_list coded_ℕ) (coded_list order.the_row.coded))

pub Life-set : IsSet Life
Life-set = Coded-set (coded_list order.the_row.coded)
