-- The view for an ask.
use Rattle.std.proofs.Common.{◌≡◌, None, refl}
use Rattle.osb_asks.specs.declared.ask.Ask.{Ask}
use Rattle.osb_asks.specs.declared.ask.Ask.TheVariants as the
use Rattle.osb_orders.specs.ViewData.{view_of}
use Rattle.osb_orders.specs.Lives.{Lives}
use Rattle.osb_asks.specs.Subjects.{instance_id_of}
use Rattle.osb_orders.specs.Listing.{listing_for}
use Rattle.osb_records.specs.Listed.{listed_facts}

-- an ask that names no instance needs the listing alone
pub listed_is : (lives : Lives) (ask : Ask) → instance_id_of ask ≡ None → listed_facts (listing_for lives ask) ≡ view_of lives ask
listed_is lives the.Catalog is = refl
listed_is lives (the.Provision ask) is = absurd (cc)
listed_is lives (the.Fetch ask) is = absurd (cc)
listed_is lives (the.Update ask) is = absurd (cc)
listed_is lives (the.Deprovision ask) is = absurd (cc)
listed_is lives (the.InstanceOp ask) is = absurd (cc)
listed_is lives (the.Bind ask) is = absurd (cc)
listed_is lives (the.FetchBinding ask) is = absurd (cc)
listed_is lives (the.Unbind ask) is = absurd (cc)
listed_is lives (the.BindingOp ask) is = absurd (cc)
listed_is lives (the.Orders ask) is = refl
listed_is lives (the.Report ask) is = absurd (cc)
