-- What is said with clients is the same from trimmed lives: by whole connections, by conversations and by exchanges.
use Rattle.std.specs.Prelude.{ℕ, Bool, List}
use Rattle.osb_frames.specs.declared.limits.Limits.{Limits}
use Rattle.osb_frames.specs.Cuts.{Message}
use Rattle.osb_catalog.specs.Rules.{Rules}
use Rattle.osb_orders.specs.Lives.{Lives}
use Rattle.osb_orders.specs.IsLife.{IsLives}
use Rattle.osb_trim.specs.Stays.{AreAlike}
use Rattle.osb_trim.specs.Trimmed.{trimmed_lives}
use Rattle.osb_broker.specs.Connection.{Run}
use Rattle.osb_broker.specs.Conversations.{Conversation, AreEpisodes}
use Rattle.osb_broker.specs.Exchanges.{Exchange, AreRuns}
use Rattle.osb_broker.specs.Resend.{refusing}

-- ---- connections, one after the other, whatever their bytes are and whichever requests are refused

-- each run from the one map of lives is one from the other, with the same outputs, and the lives that they leave are
-- alike
abbrev pub SameRuns : Rules → Limits → (Message → Bool) → ℕ → Lives → Lives → Type 0
SameRuns rules limits takes k lives others =
    (connections : List (List ℕ)) (marks : List (List Bool)) (outputs : List (List (List ℕ)))
    (after : Lives) →
    Run (refusing takes rules) limits k lives connections marks outputs after →
    (later : Lives) × Run (refusing takes rules) limits k others connections marks outputs later
    × AreAlike later after

-- the runs from trimmed lives are those from the lives
abbrev pub RunsStay : Type 0
RunsStay = (rules : Rules) (limits : Limits) (takes : Message → Bool) (k : ℕ) (lives : Lives) →
    IsLives lives →
    SameRuns rules limits takes k lives (trimmed_lives lives)
    × SameRuns rules limits takes k (trimmed_lives lives) lives

-- ---- conversations with clients, over stops and starts of the program

-- the same of all that is said with clients, also if reads or writes fail, or answers are lost
abbrev pub SameEpisodes : Rules → Limits → ℕ → Lives → Lives → Type 0
SameEpisodes rules limits k lives others =
    (episodes : List (List Conversation)) (after : Lives) →
    AreEpisodes rules limits k lives episodes after →
    (later : Lives) × AreEpisodes rules limits k others episodes later × AreAlike later after

abbrev pub EpisodesStay : Type 0
EpisodesStay = (rules : Rules) (limits : Limits) (k : ℕ) (lives : Lives) → IsLives lives →
    SameEpisodes rules limits k lives (trimmed_lives lives)
    × SameEpisodes rules limits k (trimmed_lives lives) lives

-- ---- exchanges with clients, over stops and starts of the program

abbrev pub SameExchanges : Rules → Limits → ℕ → Lives → Lives → Type 0
SameExchanges rules limits k lives others =
    (runs : List (List Exchange)) (after : Lives) →
    AreRuns rules limits k lives runs after →
    (later : Lives) × AreRuns rules limits k others runs later × AreAlike later after

abbrev pub ExchangesStay : Type 0
ExchangesStay = (rules : Rules) (limits : Limits) (k : ℕ) (lives : Lives) → IsLives lives →
    SameExchanges rules limits k lives (trimmed_lives lives)
    × SameExchanges rules limits k (trimmed_lives lives) lives
