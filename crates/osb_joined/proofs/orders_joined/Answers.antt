use Rattle.osb_joined.proofs.OrderLemmas.{life_joined, last_joined, named_joined, subject_joined, listing_joined}
use Rattle.osb_joined.proofs.orders_joined.Goals as goal

pub returns : goal.returns
returns c = record {
  life = λ lives id whole. life_joined lives whole id;
  last = λ lives id whole. last_joined lives whole id;
  named = λ ask lives id whole. named_joined lives whole ask id;
  subject = λ ask lives id whole. subject_joined lives whole ask id;
  listing = λ lives after limit whole. listing_joined lives whole after limit;
}
