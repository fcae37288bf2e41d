-- One dump upon another: document 02's eighth wish, with the start of its tenth, for every source. The joined text is what stands in A before the
-- line that ends it, a line that sets the source back to its beginning, and B. Each claim is proved in `proofs/Cut.antt` or `proofs/Joined.antt`.
-- Assumes nothing.
use Rattle.std.specs.Prelude.{◌≡◌, ◌≢◌, ◌↔◌, ◌⊎◌, ℕ, zero, suc, ◌+◌, ◌<◌, max, Bool, true, false, length, get_or}
use Rattle.std.proofs.Math.Option
use Rattle.std.proofs.Math.Option.{Option, none, some}
use mathlib.Core.List.{List, [], ◌∷◌, ◌++◌, Memᴰ}
use Rattle.digits.specs.Common.{or_else, Every}
use Rattle.std.specs.Prelude.{if◌then◌else◌}
use Rattle.record.specs.Refusals.{start_conflict}
use Rattle.reader.specs.Lines.{LF, lines, through}
use Rattle.steps.specs.Steps.{Start, Action, places, starts, counts, finishes, fails, Step, step, Tally, nothing_yet, Verdict, accepted, refused, decision, stated}
use Rattle.steps.specs.Source.{Source, steps_of}
use Rattle.steps.specs.Sites.{Shown, Loaded, Room, load}

-- ---- the joined text

-- is one of these actions the end?
unfoldable pub ends : List Action → Bool
ends [] = false
ends (places what ∷ acts) = ends acts
ends (starts s ∷ acts) = ends acts
ends (counts stated ∷ acts) = ends acts
ends (finishes ∷ acts) = true
ends (fails r ∷ acts) = ends acts

-- the lines before the first that ends the text, from a state on; empty lines are passed
unfoldable pub ahead : {S : Type 0} → Source S → S → List (List ℕ) → List (List ℕ)
unfolding ends
ahead src s [] = []
ahead src s ([] ∷ ls) = [] ∷ ahead src s ls
ahead src s ((c ∷ line) ∷ ls) = if ends (src.act s (c ∷ line)) then [] else (c ∷ line) ∷ ahead src (src.next s (c ∷ line)) ls

-- how many lines of a text those are
unfoldable pub lines_ahead : {S : Type 0} → Source S → (text : List ℕ) → ℕ
unfolding ahead lines
lines_ahead src text = length (ahead src src.beginning (lines text))

-- the bytes of a text before the line that ends it, as they are
unfoldable pub before_end : {S : Type 0} → Source S → (text : List ℕ) → List ℕ
unfolding lines_ahead through
before_end src text = Option.get_or (through (lines_ahead src text) text) []

-- those bytes of A, the line that resets, with its LF, then B
unfoldable pub joined : {S : Type 0} → Source S → (reset a b : List ℕ) → List ℕ
unfolding before_end
joined src reset a b = before_end src a ++ (reset ++ (LF ∷ b))

-- ---- what `before_end` is

-- the state after lines, from a state on
unfoldable pub state_after : {S : Type 0} → Source S → S → List (List ℕ) → S
state_after src s [] = s
state_after src s ([] ∷ ls) = state_after src s ls
state_after src s ((c ∷ line) ∷ ls) = state_after src (src.next s (c ∷ line)) ls

-- in this state the line ends the text; an empty line does not
abbrev pub Ends : {S : Type 0} → Source S → S → (line : List ℕ) → Type 0
Ends src s [] = ⊥
Ends src s (c ∷ line) = Memᴰ finishes (src.act s (c ∷ line))

-- none of these lines does, from a state on
abbrev pub NoneEnds : {S : Type 0} → Source S → S → List (List ℕ) → Type 0
NoneEnds src s [] = Unit
NoneEnds src s ([] ∷ ls) = NoneEnds src s ls
NoneEnds src s ((c ∷ line) ∷ ls) = (¬ Ends src s (c ∷ line)) × NoneEnds src (src.next s (c ∷ line)) ls

-- some line of the text ends it
pub record HasEnd {S : Type 0} (src : Source S) (text : List ℕ) : Type 0 where
  pub before : List (List ℕ)
  pub line : List ℕ
  pub later : List (List ℕ)
  pub whole : lines text ≡ before ++ (line ∷ later)
  pub is_end : Ends src (state_after src src.beginning before) line

-- bytes that are whole lines: there are none, or the last is a LF
abbrev pub WholeLines : List ℕ → Type 0
WholeLines bytes = (bytes ≡ []) ⊎ ((part : List ℕ) × (bytes ≡ part ++ (LF ∷ [])))

-- a beginning of the text, as it is, made of whole lines of which none ends it; the next line does
pub record BeforeEnd {S : Type 0} (src : Source S) (text before : List ℕ) : Type 0 where
  pub rest : List ℕ
  pub whole : text ≡ before ++ rest
  pub whole_lines : WholeLines before
  pub none_ends : NoneEnds src src.beginning (lines before)
  pub line : List ℕ
  pub later : List (List ℕ)
  pub next : lines rest ≡ line ∷ later
  pub is_end : Ends src (state_after src src.beginning (lines before)) line

-- of a text that has an end `before_end` is such, and nothing else is
abbrev pub BeforeEndMadeSo : Type 1
BeforeEndMadeSo = (S : Type 0) (src : Source S) (text : List ℕ) → HasEnd src text → BeforeEnd src text (before_end src text)

abbrev pub BeforeEndOnlySo : Type 1
BeforeEndOnlySo = (S : Type 0) (src : Source S) (text before : List ℕ) → BeforeEnd src text before → before ≡ before_end src text

-- and `lines_ahead` counts its lines
abbrev pub LinesAheadCounts : Type 1
LinesAheadCounts = (S : Type 0) (src : Source S) (text : List ℕ) → HasEnd src text → lines_ahead src text ≡ length (lines (before_end src text))

-- ---- what is claimed of the joined text

-- what joining asks of a source and of the line that resets it: the line is one line, it does nothing, and it brings the beginning back;
-- a line that ends a text does nothing else; and no line states a count, which would be of both texts
pub record Joinable {S : Type 0} (src : Source S) (reset : List ℕ) : Type 0 where
  pub has_a_byte : reset ≢ []
  pub one_line : (text : List ℕ) → lines (reset ++ (LF ∷ text)) ≡ reset ∷ lines text
  pub silent : (s : S) → src.act s reset ≡ []
  pub back : (s : S) → src.next s reset ≡ src.beginning
  pub plain_end : (s : S) (line : List ℕ) → Memᴰ finishes (src.act s line) → src.act s line ≡ finishes ∷ []
  pub no_count : (s : S) (line : List ℕ) (stated : ℕ) → ¬ Memᴰ (counts stated) (src.act s line)

-- two tallies together: the counts add, and the first start stays
abbrev pub together : Tally → Tally → Tally
together a b = record { records = a.records + b.records; start = or_else a.start b.start }

-- two starts, where both are stated, are the same
abbrev pub Agreeing : Option Start → Option Start → Type 0
Agreeing none second = Unit
Agreeing (some s) none = Unit
Agreeing (some s) (some s') = s ≡ s'

-- if A is accepted, the joined text is accepted exactly when B is and no start of B differs from A's; its tally is both together
abbrev pub JoinedAccepted : Type 1
JoinedAccepted =
    (S : Type 0) (src : Source S) (reset : List ℕ) → Joinable src reset
    → (room : Room) (a b page marks : List ℕ) (ta tj : Tally) → (load src room a page marks).answer ≡ accepted ta
    → ((load src room (joined src reset a b) page marks).answer ≡ accepted tj)
    ↔ ((tb : Tally) × ((load src room b page marks).answer ≡ accepted tb) × Agreeing ta.start tb.start × (tj ≡ together ta tb))

-- the line of a refusal, after k other lines; 0, where no line is named, stays 0
abbrev pub after_lines : (k line : ℕ) → ℕ
after_lines k zero = 0
after_lines k (suc line) = k + suc line

-- if this step states a start, it is the given one
abbrev pub StatesNoOther : Start → Step → Type 0
StatesNoOther s x = (n : ℕ) (other : Start) → x ≡ step n (starts other) → other ≡ s

-- a load of these steps, from a tally on, comes to a start other than the first, on line n: no step before it stops the load or states another
pub record Conflict (inside : ℕ → Bool) (first : Option Start) (t : Tally) (s : List Step) (n : ℕ) : Type 0 where
  pub start : Start
  pub other : Start
  pub before : List Step
  pub later : List Step
  pub first_is : first ≡ some start
  pub whole : s ≡ before ++ (step n (starts other) ∷ later)
  pub differs : other ≢ start
  pub reached : decision inside t before ≡ none
  pub none_earlier : Every (StatesNoOther start) before

-- B comes to a start other than A's on its line n
abbrev pub MeetsAnother : {S : Type 0} → Source S → Room → Tally → (b : List ℕ) (n : ℕ) → Type 0
MeetsAnother src room ta b n = Conflict room.inside ta.start nothing_yet (steps_of src b) n

-- a verdict on B, after A's tally and k lines
abbrev pub after_verdict : (k : ℕ) → Tally → Verdict → Verdict
after_verdict k a (accepted t) = accepted (together a t)
after_verdict k a (refused r line) = refused r (after_lines k line)

-- what the joined text is answered where B is answered v: that, after A's tally and k lines; but 21, at the line on which B comes to a start other
-- than A's, if it comes to one
pub data AnsweredAfter (k : ℕ) (a : Tally) (meets : (n : ℕ) → Type 0) (v : Verdict) : Verdict → Type 0 where
  as_B : ((n : ℕ) → ¬ meets n) → AnsweredAfter k a meets v (after_verdict k a v)
  starts_differ : (n : ℕ) → meets n → AnsweredAfter k a meets v (refused start_conflict (k + n))

-- if A is accepted, the joined text is answered so, after A's lines before its end and the line that resets
abbrev pub JoinedAnswered : Type 1
JoinedAnswered =
    (S : Type 0) (src : Source S) (reset : List ℕ) → Joinable src reset
    → (room : Room) (a b page marks : List ℕ) (ta : Tally) → (load src room a page marks).answer ≡ accepted ta
    → AnsweredAfter (suc (lines_ahead src a)) ta (MeetsAnother src room ta b) (load src room b page marks).answer (load src room (joined src reset a b) page marks).answer

-- that leaves nothing open
abbrev pub JoinedOneAnswer : Type 1
JoinedOneAnswer =
    (S : Type 0) (src : Source S) (reset : List ℕ) → Joinable src reset
    → (room : Room) (a b page marks : List ℕ) (ta : Tally) (v : Verdict) → (load src room a page marks).answer ≡ accepted ta
    → AnsweredAfter (suc (lines_ahead src a)) ta (MeetsAnother src room ta b) (load src room b page marks).answer v
    → v ≡ (load src room (joined src reset a b) page marks).answer

-- these steps state no start
abbrev pub NoStart : List Step → Type 0
NoStart s = Every (λ (x : Step). (n : ℕ) (start : Start) → x ≢ step n (starts start)) s

-- so where A states no start, or no step of B states one, the answer is B's, after A's tally and lines
abbrev pub JoinedWithOneStart : Type 1
JoinedWithOneStart =
    (S : Type 0) (src : Source S) (reset : List ℕ) → Joinable src reset
    → (room : Room) (a b page marks : List ℕ) (ta : Tally) → (load src room a page marks).answer ≡ accepted ta
    → (ta.start ≡ none) ⊎ NoStart (steps_of src b)
    → (load src room (joined src reset a b) page marks).answer ≡ after_verdict (suc (lines_ahead src a)) ta (load src room b page marks).answer

-- it states what A states, then what B states
abbrev pub JoinedStates : Type 1
JoinedStates =
    (S : Type 0) (src : Source S) (reset : List ℕ) → Joinable src reset
    → (room : Room) (a b page marks : List ℕ) (ta : Tally) → (load src room a page marks).answer ≡ accepted ta
    → stated (steps_of src (joined src reset a b)) ≡ stated (steps_of src a) ++ stated (steps_of src b)

-- a load upon another, and one load of both: the same page; and of each of so many places that shows an address, the union of both marks
pub record Upon (site : ℕ → Option ℕ) (places : ℕ) (first second both : Loaded) : Type 0 where
  pub pages : both.page ≡ second.page
  pub marks : (i : ℕ) → i < places → Shown site i → get_or both.marks i 0 ≡ max (get_or first.marks i 0) (get_or second.marks i 0)

-- if both are accepted and their starts agree, loading A and then B leaves the page of the joined text, whose marks are the union of both loads'
-- marks; the old marks of each of the three loads may be any
abbrev pub OneUponAnother : Type 1
OneUponAnother =
    (S : Type 0) (src : Source S) (reset : List ℕ) → Joinable src reset
    → (room : Room) (a b page ma mb mj : List ℕ) (ta tb : Tally) → length ma ≡ length mj → length mb ≡ length mj
    → let la = load src room a page ma in
    let lb = load src room b la.page mb in
    la.answer ≡ accepted ta → lb.answer ≡ accepted tb → Agreeing ta.start tb.start → Upon room.site (length mj) la lb (load src room (joined src reset a b) page mj)

-- three dumps, of which the first two have an end, may be joined in either grouping: the texts are the same
abbrev pub EitherGrouping : Type 1
EitherGrouping =
    (S : Type 0) (src : Source S) (reset : List ℕ) → Joinable src reset
    → (a b c : List ℕ) → HasEnd src a → HasEnd src b
    → joined src reset (joined src reset a b) c ≡ joined src reset a (joined src reset b c)

-- an accepted dump has an end
abbrev pub AcceptedHasEnd : Type 1
AcceptedHasEnd =
    (S : Type 0) (src : Source S) (room : Room) (text page marks : List ℕ) (t : Tally)
    → (load src room text page marks).answer ≡ accepted t → HasEnd src text

-- an accepted dump that states nothing changes no page byte, and clears the mark of each place that shows an address
abbrev pub NothingStated : Type 1
NothingStated =
    (S : Type 0) (src : Source S) (room : Room) (text page marks : List ℕ) (t : Tally)
    → let l = load src room text page marks in
    l.answer ≡ accepted t → stated (steps_of src text) ≡ []
    → (l.page ≡ page) × ((i : ℕ) → i < length marks → Shown room.site i → get_or l.marks i 0 ≡ 0)
