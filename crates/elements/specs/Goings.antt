-- What a reader of elements comes to in code: a fault and its place, or the place behind what was read, the phase there and the records in the work table.
use Rattle.std.specs.Prelude.{Result, Ok, Err, ℕ, zero, suc, ◌+◌, ◌-◌, ◌≤◌, ◌≡◌, List, length, drop}
use Rattle.std.specs.Result.{result_map_both}
use Rattle.text.specs.Texts.{Text, part}
use Rattle.documents.specs.Parts.{Reader, ◌>>=◌, ◌>>◌, return, Opened, order_mark, prolog, asides, ending}
use Rattle.listings.specs.declared.records.Kind.{Kind}
use Rattle.markup.specs.declared.answers.Fault.{Fault as Blame}
use Rattle.markup.specs.declared.answers.Start.{Start}
use Rattle.markup.specs.Places.{read_as, place_of, Opening}
use Rattle.portals.specs.Elements as Elements
use Rattle.portals.specs.Elements.{Phase, Effect}
use Rattle.portals.specs.Records.{record_of}
use Rattle.portals.specs.Readings.{Reached, reached, adding, doing, filling, telling, entering, sinking, content_in, element_in}
use Rattle.portals.specs.Outcomes.{most_xml}
use Rattle.ledger.specs.Ledgers.{Ledger, ledgered}
use Rattle.ledger.specs.declared.items.Item.{Item}
use Rattle.ledger.specs.Places.{ledger_at, record_by, number_of, Fits, Offered}
use Rattle.elements.specs.declared.giving.Went.{Went}
use Rattle.elements.specs.declared.rows.Phase.{Phase as At}
use Rattle.elements.specs.declared.rows.Effect.{Effect as Does}
use Rattle.elements.specs.Rows.{phase_at, effect_at}

-- ---- answers
-- what was read, and the place behind it
pub record Stood (A : Type 0) : Type 0 where
  pub value : A
  pub next : ℕ

abbrev pub stood : {A : Type 0} → A → ℕ → Stood A
stood y n = record { value = y; next = n }

-- that, or a fault
abbrev pub Going : Type 0 → Type 0
Going A = Result (Stood A) Blame

-- what m reads from the place i of s on
abbrev pub read_on : {A : Type 0} → Reader A → Text → ℕ → Going A
read_on m s i = read_as stood m s i

-- what the code hands back, with the value that was read
abbrev pub shown_by : {A : Type 0} → Result ℕ Blame → A → Going A
shown_by r y = result_map_both (stood y) (λ e. e) r

-- the same of what is done at a place, where reading then goes on
abbrev pub done_by : {A : Type 0} → Result (Unit {0}) Blame → ℕ → A → Going A
done_by r i y = result_map_both (λ u. stood y i) (λ e. e) r

-- how far reading has come: the phase, and what the table w keeps of the file s
abbrev pub reached_at : Text → At → List ℕ → Reached Ledger
reached_at s phase w = reached (phase_at phase) (ledger_at s w)

-- the same of what the code hands back of it
abbrev pub came : Text → List ℕ → Result Went Blame → Going (Reached Ledger)
came s w r = result_map_both (λ g. stood (reached_at s g.phase w) g.next) (λ e. e) r

abbrev pub went_at : Result Went Blame → Result ℕ Blame
went_at r = result_map_both (λ g. g.next) (λ e. e) r

-- ---- what is known before, and what comes of it
-- a content or an element is to be read from `at` on, in an element whose first tag stands at `here`
pub record Ready (s : Text) (at here : ℕ) (w : List ℕ) : Type 0 where
  pub within : at ≤ length s
  pub begun : here ≤ at
  pub short : length s ≤ most_xml
  pub fits : Fits w

-- the first tag t stands at `at`
pub record Tagged (s : Text) (at : ℕ) (t : Start) : Type 0 where
  pub opening : Opening s at t
  pub within : t.next ≤ length s
  pub short : length s ≤ most_xml

-- and what follows it is to be read
pub record Entered (s : Text) (at : ℕ) (t : Start) (w : List ℕ) : Type 0 where
  pub tag : Tagged s at t
  pub fits : Fits w

-- a record of the text t at `place` is to be given by the element whose first tag stands at `at`; reading then goes on at `next`
pub record Saying (s : Text) (at place next : ℕ) (item : Item) (t : Text) (w : List ℕ) : Type 0 where
  pub offered : Offered s w (number_of item) place t
  pub here : at ≤ length s
  pub within : next ≤ length s

-- it is read, and the phase, the place and the records are due
pub record Gone (s : Text) (due : Going (Reached Ledger)) (r : Result Went Blame) (w : List ℕ) : Type 0 where
  pub answer : came s w r ≡ due
  pub within : place_of (went_at r) ≤ length s
  pub fits : Fits w

-- what r hands back is what m reads from the place i on
abbrev pub Comes : Text → Reader (Reached Ledger) → ℕ → Result Went Blame → List ℕ → Type 0
Comes s m i r w = Gone s (read_on m s i) r w

-- the same where the phase stays, and the records do, whatever they are
abbrev pub Passes : Text → At → (Reached Ledger → Reader (Reached Ledger)) → ℕ → Result ℕ Blame → Type 0
Passes s phase m i r = (x : Ledger) → shown_by r (reached (phase_at phase) x) ≡ read_on (m (reached (phase_at phase) x)) s i

-- ---- the readers of `portals` with what is kept in the work table
-- what the first tag t at `at` opens
abbrev pub opened_by : Text → ℕ → Start → Opened
opened_by s at t = record { name = part (at + 1) t.end s; full = t.full }

-- a content, an element
abbrev pub content_at : ℕ → ℕ → Reached Ledger → Reader (Reached Ledger)
content_at d n x = content_in (element_in ledgered d) n x

abbrev pub element_at : ℕ → Reached Ledger → Reader (Reached Ledger)
element_at d x = element_in ledgered d x

-- what an element holds
abbrev pub filling_at : ℕ → ℕ → Opened → Reached Ledger → Reader (Reached Ledger)
filling_at d n t x = filling (content_in (element_in ledgered d)) n t x

-- an element that holds content, and one that is a text
abbrev pub holding_at : ℕ → ℕ → Opened → Phase → Phase → Effect → Ledger → Reader (Reached Ledger)
holding_at d n t p f e x = doing ledgered n e x >>= λ y. filling_at d n t (reached f y) >>= λ z. return (reached p z.kept)

abbrev pub adding_at : ℕ → Phase → Kind → Text → Ledger → Reader (Reached Ledger)
adding_at n p k v x = adding ledgered n (record_of k v) x >>= λ y. return (reached p y)

abbrev pub saying_at : ℕ → Opened → Phase → Kind → Ledger → Reader (Reached Ledger)
saying_at n t p k x = telling n t >>= λ v. adding_at n p k v x

-- an element that opens so, where so many levels may still be opened
abbrev pub entering_at : ℕ → ℕ → Opened → Reached Ledger → Elements.Opening → Reader (Reached Ledger)
entering_at zero n t x o = sinking n o
entering_at (suc d) n t x o = entering ledgered (content_in (element_in ledgered d)) n t x o

-- what stands before the root, and behind it
abbrev pub leading : Reader (Unit {0})
leading = order_mark >> prolog >> asides

abbrev pub trailing : Reader (Unit {0})
trailing = asides >> ending

-- a fault, if there is one, is put at p
abbrev pub FaultsAt : ℕ → Result (Unit {0}) Blame → Type 0
FaultsAt p (Ok u) = Unit {0}
FaultsAt p (Err e) = e.at ≡ p

-- the record of that kind whose text stands at `place` is given by the element whose first tag stands at `at`
pub record Given (s : Text) (at place : ℕ) (item : Item) (w : List ℕ) (r : Result (Unit {0}) Blame) (w' : List ℕ) : Type 0 where
  pub answer : (i : ℕ) → i ≤ length s → done_by r i (ledger_at s w') ≡ read_on (adding ledgered (length s - at) (record_by s (number_of item) place) (ledger_at s w)) s i
  pub faults : FaultsAt at r
  pub fits : Fits w'

-- what the element whose first tag stands at `at` does where it begins is done
pub record Done (s : Text) (at : ℕ) (effect : Does) (w : List ℕ) (r : Result (Unit {0}) Blame) (w' : List ℕ) : Type 0 where
  pub answer : (i : ℕ) → i ≤ length s → done_by r i (ledger_at s w') ≡ read_on (doing ledgered (length s - at) (effect_at effect) (ledger_at s w)) s i
  pub faults : FaultsAt at r
  pub fits : Fits w'
