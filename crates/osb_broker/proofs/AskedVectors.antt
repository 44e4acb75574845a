-- What is asked again, computed: a creation on two connections, with other fields and its members in another order.
use Rattle.std.proofs.Common.{◌≡◌, ℕ, true, false, List, [], ◌∷◌, length, None, Some, unwrap_or, codes, refl, ◌∙◌, ap}
use Rattle.std.proofs.lemmas.Bool.{false≢true}
use Rattle.std.proofs.lemmas.Slice.Eq.{bytes_eq-Decides}
use lib.Utf8.{encode}
use Rattle.std.specs.FinMap.{empty, get-empty}
use Rattle.std.specs.Ordering.{nat_cmp}
use Rattle.std.specs.Cmp.Lexicographic.{slice_cmp}
use Rattle.std.specs.Str.{is_utf8, chars}
use Rattle.json.specs.Lex.{lex, punctuate}
use Rattle.json.specs.Text.{content}
use Rattle.json.specs.Json.{value}
use Rattle.osb_frames.specs.Fields.{Line, same_ignoring_case}
use Rattle.osb_frames.specs.Cuts.{Message}
use Rattle.osb_catalog.specs.Rules.{Rules}
use Rattle.osb_catalog.specs.declared.plan.Timing.TheVariants.{Asynchronous}
use Rattle.osb_asks.specs.declared.ask.Ask.{Ask}
use Rattle.osb_asks.specs.declared.ask.Ask.TheVariants as the
use Rattle.osb_asks.specs.declared.ask.ReportState.TheVariants.{Succeeded}
use Rattle.osb_asks.specs.Asks.{ask_of}
use Rattle.osb_asks.specs.Instances.{provision_of}
use Rattle.osb_orders.specs.Life.{Life}
use Rattle.osb_orders.specs.Lives.{Lives, life_of}
use Rattle.osb_orders.specs.ViewData.{view_data_of}
use Rattle.osb_orders.specs.Changed.{changed}
use Rattle.osb_machine.specs.Answer.{answer}
use Rattle.osb_machine.specs.Machine.{after_step}
use Rattle.osb_laws.proofs.MapLemmas.{step_at, others_stay}

-- plans whose orders are carried out later, and one login of each door
abbrev rules : Rules
rules = record {
  catalog = [];
  service = λ service. Some (record { id = service; context_updates = false });
  plan = λ service plan. Some (record { bindable = true; plan_updateable = true; version = [] });
  mode = λ plan. Some (record { instances = Asynchronous; bindings = Asynchronous; credentials = [] });
  order_limit = 10;
  platform_tokens = codes "p" ∷ [];
  backend_tokens = codes "b" ∷ [];
}

-- ---- what is asked

abbrev request : List ℕ → List Line → List ℕ → Message
request target lines body = record { method = codes "PUT"; target = target; minor = 1; lines = lines; body = body }

-- the fields of a platform's request with that identity
abbrev fields : List ℕ → List Line
fields identity = (codes "X-Broker-API-Request-Identity", identity) ∷ (codes "Authorization", codes "Basic p") ∷ (codes "X-Broker-API-Version", codes "2.17") ∷ []

abbrev once : Message
once = request (codes "/v2/service_instances/i?accepts_incomplete=true") (fields (codes "1")) (codes "{\"service_id\":\"s\",\"plan_id\":\"p\",\"organization_guid\":\"o\",\"space_guid\":\"r\"}")

abbrev again : Message
again = request (codes "/v2/service_instances/i?accepts_incomplete=true") ((codes "Via", codes "proxy") ∷ fields (codes "2")) (codes "{ \"space_guid\":\"r\",\"plan_id\":\"p\",\"service_id\":\"s\",\"organization_guid\":\"o\"}")

-- the creation that is asked
abbrev created : List ℕ → Ask
created id = the.Provision (record {
  instance = id;
  service = codes "s";
  plan = codes "p";
  organization = codes "o";
  space = codes "r";
  context = codes "{}";
  parameters = codes "{}";
  maintenance = None;
  accepts_incomplete = true;
})

-- the report that its order succeeded
abbrev reported : Ask
reported = the.Report (record { instance = codes "i"; number = 1; state = Succeeded; description = []; credentials = codes "{}" })

asks_the_same : ask_of rules once ≡ ask_of rules again
unfolding same_ignoring_case provision_of is_utf8 chars encode lex punctuate content value
asks_the_same = refl

-- ---- what it leaves

abbrev life_after : Life → Ask → Life
life_after life ask = changed (answer rules (view_data_of life [] ask) ask).change life

others : codes "i" ≡ codes "j" → ⊥
others same = false≢true ((bytes_eq-Decides (codes "i") (codes "j")).1 same)

-- another instance's creation and the report come between the two
abbrev before_again : Lives
before_again = after_step rules (after_step rules (after_step rules empty (created (codes "i"))) (created (codes "j"))) reported

pub opens_one : length (life_of (after_step rules before_again (created (codes "i"))) (codes "i")) ≡ 1
opens_one =
    let i = codes "i" in
    let none : Lives = empty in
    let one = after_step rules none (created i) in
    let two = after_step rules one (created (codes "j")) in
    let none_yet : life_of none i ≡ [] = ap (λ found. unwrap_or found []) (get-empty (slice_cmp nat_cmp) i) in
    let opened = step_at rules none (created i) i refl ∙ ap (λ life. life_after life (created i)) none_yet in
    let beside = others_stay rules one (created (codes "j")) (codes "j") i refl others ∙ opened in
    let ended = step_at rules two reported i refl ∙ ap (λ life. life_after life reported) beside in
    ap length (step_at rules before_again (created i) i refl ∙ ap (λ life. life_after life (created i)) ended)
