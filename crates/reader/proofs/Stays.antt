-- The claims on calls from any state, and on what no answer depends on: each is read off the outcome's own cases.
-- Assumes nothing.
use Rattle.std.proofs.Common.{◌≡◌, ℕ, suc, ◌+◌, ◌-◌, ◌<◌, ◌≤◌, Bool, true, false, ◌||◌, leb, ◌≢◌, List, [], ◌∷◌, ◌++◌, length, drop, sym, refl, ap, ◌∙◌, ap₂, add-zero, add-suc, suc-add, arith, drop_of_length-le}
use Rattle.digits.specs.Common.{Every}
use Rattle.std.specs.Prelude.{if◌then◌else◌}
use Rattle.record.specs.Refusals.{pool_full}
use Rattle.record.specs.Line.{Said, says, wrong, judge}
use Rattle.record.specs.Meaning.{Meaning, data_at, end_of_file, extended_segment, start_segment, extended_linear, start_linear, meaning}
use Rattle.digits.proofs.Tests.{both_ways}
use Rattle.reader.specs.declared.Values.{Values}
use Rattle.reader.specs.declared.Figures.{Figures}
use Rattle.reader.specs.declared.ReaderOptions.{ReaderOptions}
use Rattle.reader.specs.declared.State.{State}
use Rattle.reader.specs.declared.Replied.{Replied}
use Rattle.reader.specs.Aliases.{Reply}
use Rattle.reader.specs.Aliases.{Answer}
use Rattle.reader.specs.Told.{Told, gives, refuses, done}
use Rattle.reader.specs.Answer.{given, answered, poured}
use Rattle.reader.specs.Lines.{lines, later, Found, a_line, no_line, next_line}
use Rattle.reader.specs.Row.{Numbered, on, line_number, sayings, stops, through_stop, stopped, row}
use Rattle.reader.specs.Text.{told_reply, is_full, ends_row, behind, at_end, next_number, Outcome, of_found, outcome}
use Rattle.reader.specs.Calls.{no_more, one_more}
use Rattle.reader.specs.Claims.{DoneStays, DoneBehind, FullKeeps, RoomIsEnough, PoolBlind, SameThrough, NothingBehind, NextUnique, DefaultUnique, EndsUnique, NewUnique, NumberUnique, FiguresUnique, IsPoolFullUnique}
use Rattle.reader.proofs.Claims.{untold, untold_told}
use Rattle.reader.proofs.Cutting.{lines_closed, Head, through_head}
use Rattle.reader.proofs.Reading.{full_keeps, outcome_finished, outcome_found}
use Rattle.reader.proofs.Room.{never_full}
use Rattle.std.specs.Prelude.{Err, None, Ok, Some}

-- ---- calls from any state

-- an answer to a line is never "done"
pub never_done : (said : Said) (n at : ℕ) → answered said n at ≢ done
unfolding answered given
never_done (wrong r) n at e = let z : ◌≡◌ {A = ℕ} 0 1 = cc in omega arith
never_done (says kind address payload) n at e = go (meaning kind address payload) e
  where
    go : (m : Meaning) → given m n at ≢ done
    go (data_at offset bytes) e = both_ways (λ b. (if b then gives 0 (offset ∷ at ∷ length bytes ∷ []) else refuses pool_full) ≢ done) (leb (at + length bytes) n) (λ e. let z : ◌≡◌ {A = ℕ} 0 1 = cc in omega arith) (λ e. let z : ◌≡◌ {A = ℕ} 0 1 = cc in omega arith) e
    go end_of_file e = let z : ◌≡◌ {A = ℕ} 0 1 = cc in omega arith
    go (extended_segment number) e = let z : ◌≡◌ {A = ℕ} 0 1 = cc in omega arith
    go (start_segment cs ip) e = let z : ◌≡◌ {A = ℕ} 0 1 = cc in omega arith
    go (extended_linear number) e = let z : ◌≡◌ {A = ℕ} 0 1 = cc in omega arith
    go (start_linear number) e = let z : ◌≡◌ {A = ℕ} 0 1 = cc in omega arith

module _ (s : State) (text pool : List ℕ) (at : ℕ) where
  -- what is told of a line that is found, whether it is used up or not
  found_told : (e : ℕ) (line left : List ℕ) → (of_found s (length text) pool at (a_line e line left)).told ≡ answered (judge line) (length pool) at
  unfolding of_found
  found_told e line left = both_ways (λ b. (Outcome.told (if b then record { told = answered (judge line) (length pool) at; state = s; pool = pool } else record { told = answered (judge line) (length pool) at; state = behind s (length text - length left) (next_number s e) (ends_row s.options (answered (judge line) (length pool) at)); pool = poured (judge line) pool at })) ≡ answered (judge line) (length pool) at) (is_full (answered (judge line) (length pool) at)) refl refl

  found_state : (e : ℕ) (line left : List ℕ) → (of_found s (length text) pool at (a_line e line left)).state
      ≡ (if is_full (answered (judge line) (length pool) at) then s else behind s (length text - length left) (next_number s e) (ends_row s.options (answered (judge line) (length pool) at)))
  unfolding of_found
  found_state e line left = both_ways (λ b. (Outcome.state (if b then record { told = answered (judge line) (length pool) at; state = s; pool = pool } else record { told = answered (judge line) (length pool) at; state = behind s (length text - length left) (next_number s e) (ends_row s.options (answered (judge line) (length pool) at)); pool = poured (judge line) pool at })) ≡ (if b then s else behind s (length text - length left) (next_number s e) (ends_row s.options (answered (judge line) (length pool) at)))) (is_full (answered (judge line) (length pool) at)) refl refl

  found_pool : (e : ℕ) (line left : List ℕ) → (of_found s (length text) pool at (a_line e line left)).pool ≡ poured (judge line) pool at
  unfolding of_found
  found_pool e line left = go (is_full (answered (judge line) (length pool) at)) refl
    where
      go : (b : Bool) → is_full (answered (judge line) (length pool) at) ≡ b → (Outcome.pool (if b then record { told = answered (judge line) (length pool) at; state = s; pool = pool } else record { told = answered (judge line) (length pool) at; state = behind s (length text - length left) (next_number s e) (ends_row s.options (answered (judge line) (length pool) at)); pool = poured (judge line) pool at })) ≡ poured (judge line) pool at
      go true f = sym (full_keeps (judge line) pool at f)
      go false f = refl

  -- the three ways of a call
  pub ways : (P : Outcome → Type 0) → (s.finished ≡ true → P (record { told = done; state = s; pool = pool })) → P (record { told = done; state = at_end s; pool = pool })
      → ((e : ℕ) (line left : List ℕ) → next_line 0 (drop s.position text) ≡ a_line e line left → P (of_found s (length text) pool at (a_line e line left))) → P (outcome s text pool at)
  unfolding of_found
  ways P p q r = running s.finished refl
    where
      found : (f : Found) → s.finished ≡ false → next_line 0 (drop s.position text) ≡ f → P (outcome s text pool at)
      found (no_line e) b n = rw (outcome_found s text pool at b (no_line e) n) q
      found (a_line e line left) b n = rw (outcome_found s text pool at b (a_line e line left) n) (r e line left n)

      running : (b : Bool) → s.finished ≡ b → P (outcome s text pool at)
      running true b = rw (outcome_finished s text pool at b) (p b)
      running false b = found (next_line 0 (drop s.position text)) b refl

  done_finished : (outcome s text pool at).told ≡ done → (outcome s text pool at).state.finished ≡ true
  done_finished =
      ways (λ o. o.told ≡ done → o.state.finished ≡ true) (λ b e. b) (λ e. refl)
      (λ k line left n e. absurd (never_done (judge line) (length pool) at (sym (found_told k line left) ∙ e)))

pub done_stays : DoneStays
done_stays s text pool at e text' pool' at' = outcome_finished (outcome s text pool at).state text' pool' at' (done_finished s text pool at e)

pub done_behind : DoneBehind
unfolding next_line
done_behind s text pool at h =
    ways s text pool at (λ o. o.told ≡ done) (λ b. refl) refl
    (λ k line left n.
    let e : next_line 0 (drop s.position text) ≡ no_line 0 = ap (next_line 0) (drop_of_length-le text h) in
    let z : ◌≡◌ {A = ℕ} 0 1 = cc in absurd (omega arith))

pub full_stays : FullKeeps
unfolding is_full
full_stays s text pool at =
    ways s text pool at (λ o. o.told ≡ refuses pool_full → (o.state ≡ s) × (o.pool ≡ pool))
    (λ b e. let z : ◌≡◌ {A = ℕ} 0 1 = cc in absurd (omega arith))
    (λ e. let z : ◌≡◌ {A = ℕ} 0 1 = cc in absurd (omega arith))
    (λ k line left n e.
    let f : is_full (answered (judge line) (length pool) at) ≡ true = ap is_full (sym (found_told s text pool at k line left) ∙ e) in
    (found_state s text pool at k line left ∙ rw f, found_pool s text pool at k line left ∙ full_keeps (judge line) pool at f))

-- a call with room for the longest payload is not told PoolFull
room_told : (s : State) (text pool : List ℕ) (at : ℕ) → at + 255 ≤ length pool → is_full (outcome s text pool at).told ≡ false
unfolding is_full
room_told s text pool at h =
    ways s text pool at (λ o. is_full o.told ≡ false) (λ b. refl) refl
    (λ k line left n. ap is_full (found_told s text pool at k line left) ∙ never_full line (length pool) at h)

pub room_is_enough : RoomIsEnough
room_is_enough text s [] givens r no_more = tt
room_is_enough text s (call ∷ calls) givens (h, r) (one_more {givens = later} step' pool' meets more-calls) =
    (ap is_full meets.answer ∙ room_told s text call.pool call.at h, room_is_enough text step'.state calls later r more-calls)

-- ---- what no answer depends on

pub pool_blind : PoolBlind
unfolding outcome of_found
pool_blind s text pool₁ pool₂ at n = running s.finished
  where
    found : (f : Found) → ((of_found s (length text) pool₁ at f).told ≡ (of_found s (length text) pool₂ at f).told) × ((of_found s (length text) pool₁ at f).state ≡ (of_found s (length text) pool₂ at f).state)
    found (no_line e) = (refl, refl)
    found (a_line e line left) = (
      found_told s text pool₁ at e line left ∙ ap (λ (k : ℕ). answered (judge line) k at) n ∙ sym (found_told s text pool₂ at e line left),
      found_state s text pool₁ at e line left
          ∙ ap (λ (k : ℕ). if is_full (answered (judge line) k at) then s else behind s (length text - length left) (next_number s e) (ends_row s.options (answered (judge line) k at))) n
          ∙ sym (found_state s text pool₂ at e line left),
    )

    running : (b : Bool)
        → let o₁ : Outcome = if b then record { told = done; state = s; pool = pool₁ } else of_found s (length text) pool₁ at (next_line 0 (drop s.position text)) in
        let o₂ : Outcome = if b then record { told = done; state = s; pool = pool₂ } else of_found s (length text) pool₂ at (next_line 0 (drop s.position text)) in
        (o₁.told ≡ o₂.told) × (o₁.state ≡ o₂.state)
    running true = (refl, refl)
    running false = found (next_line 0 (drop s.position text))

-- what lines say that stand behind others
pub sayings_append : (n : ℕ) (xs ys : List (List ℕ)) → sayings n (xs ++ ys) ≡ sayings n xs ++ sayings (n + length xs) ys
unfolding sayings
sayings_append n [] ys = ap (λ (k : ℕ). sayings k ys) (sym (add-zero n))
sayings_append n ([] ∷ xs) ys = sayings_append (suc n) xs ys ∙ ap (λ (k : ℕ). sayings (suc n) xs ++ sayings k ys) (suc-add n (length xs) ∙ sym (add-suc n (length xs)))
sayings_append n ((c ∷ line) ∷ xs) ys =
    ap (λ (l : List Numbered). on n (judge (c ∷ line)) ∷ l)
    (sayings_append (suc n) xs ys ∙ ap (λ (k : ℕ). sayings (suc n) xs ++ sayings k ys) (suc-add n (length xs) ∙ sym (add-suc n (length xs))))

-- the numbers of lines that are numbered from n on
numbers_between : (n m : ℕ) (ls : List (List ℕ)) → n + length ls ≤ m → Every (λ (x : Numbered). line_number x < m) (sayings n ls)
unfolding sayings
numbers_between n m [] h = tt
numbers_between n m ([] ∷ ls) h = numbers_between (suc n) m ls (omega arith)
numbers_between n m ((c ∷ line) ∷ ls) h = (omega arith, numbers_between (suc n) m ls (omega arith))

numbers_from : (k n : ℕ) (ls : List (List ℕ)) → k < n → Every (λ (x : Numbered). k < line_number x) (sayings n ls)
unfolding sayings
numbers_from k n [] h = tt
numbers_from k n ([] ∷ ls) h = numbers_from k (suc n) ls (omega arith)
numbers_from k n ((c ∷ line) ∷ ls) h = (h, numbers_from k (suc n) ls (omega arith))

every_weaker : {P Q : Numbered → Type 0} (xs : List Numbered) → ((x : Numbered) → P x → Q x) → Every P xs → Every Q xs
every_weaker [] f h = tt
every_weaker (x ∷ xs) f (h, hs) = (f x h, every_weaker xs f hs)

-- a text through line k, and what stands behind it
parted : (k : ℕ) (text head : List ℕ) → (h : Head k text head) → sayings 1 (lines text) ≡ sayings 1 (lines head) ++ sayings (suc k) (lines h.tail)
parted k text head h =
    ap (λ (t : List ℕ). sayings 1 (lines t)) h.text_is
    ∙ ap (sayings 1) (lines_closed h.whole h.tail)
    ∙ sayings_append 1 (lines head) (lines h.tail)
    ∙ ap (λ (n : ℕ). sayings 1 (lines head) ++ sayings n (lines h.tail)) (let c = h.count in omega arith)

pub same_through : SameThrough
same_through k text₁ text₂ head t₁ t₂ =
    let h₁ = through_head k text₁ head t₁ in
    let h₂ = through_head k text₂ head t₂ in
    record {
      both = sayings 1 (lines head);
      rest₁ = sayings (suc k) (lines h₁.tail);
      rest₂ = sayings (suc k) (lines h₂.tail);
      first = parted k text₁ head h₁;
      second = parted k text₂ head h₂;
      through_k = every_weaker (sayings 1 (lines head)) (λ x h. omega arith) (numbers_between 1 (suc k) (lines head) (let c = h₁.count in omega arith));
      behind₁ = numbers_from k (suc k) (lines h₁.tail) (omega arith);
      behind₂ = numbers_from k (suc k) (lines h₂.tail) (omega arith);
    }

-- what stops the reader hides what stands behind it
through_stop_append : (options : ReaderOptions) (xs ys : List Numbered) → stopped options xs ≡ true → through_stop options (xs ++ ys) ≡ through_stop options xs
unfolding stopped through_stop
through_stop_append options [] ys h = let z : ◌≡◌ {A = ℕ} 0 1 = cc in absurd (omega arith)
through_stop_append options (on n said ∷ xs) ys h = ap (λ (l : List Numbered). on n said ∷ l) (go (stops options said) h (λ q. through_stop_append options xs ys q))
  where
    go : (b : Bool) → b || stopped options xs ≡ true → (stopped options xs ≡ true → through_stop options (xs ++ ys) ≡ through_stop options xs)
        → (if b then [] else through_stop options (xs ++ ys)) ≡ (if b then [] else through_stop options xs)
    go true h again = refl
    go false h again = again h

pub nothing_behind : NothingBehind
unfolding row
nothing_behind options k text₁ text₂ head t₁ t₂ stop =
    let h₁ = through_head k text₁ head t₁ in
    let h₂ = through_head k text₂ head t₂ in
    ap (through_stop options) (parted k text₁ head h₁)
    ∙ through_stop_append options (sayings 1 (lines head)) (sayings (suc k) (lines h₁.tail)) stop
    ∙ sym (through_stop_append options (sayings 1 (lines head)) (sayings (suc k) (lines h₂.tail)) stop)
    ∙ ap (through_stop options) (sym (parted k text₂ head h₂))

-- ---- one outcome each

as_reply : Answer → Reply
as_reply (Ok r) = Some (Ok r)
as_reply (Err e) = Some (Err e)

-- what a call answers and leaves, put together
abbrev pub step : Reply → State → Replied
step r s = record { reply = r; state = s }

-- the reply of what is told
reply_of : Told → Reply
reply_of (gives kind ns) = as_reply (untold (gives kind ns))
reply_of (refuses r) = as_reply (untold (refuses r))
reply_of done = None

reply_again : (r : Reply) → reply_of (told_reply r) ≡ r
unfolding reply_of as_reply
reply_again (Some (Ok r)) = ap as_reply (untold_told (Ok r))
reply_again (Some (Err e)) = ap as_reply (untold_told (Err e))
reply_again None = refl

pub next_unique : NextUnique
next_unique s text pool at r r' p p' x y =
    let q : r.reply ≡ r'.reply = sym (reply_again r.reply) ∙ ap reply_of (x.answer ∙ sym y.answer) ∙ reply_again r'.reply in
    (ap₂ step q (x.state ∙ sym y.state), x.left ∙ sym y.left)

pub default_unique : DefaultUnique
default_unique r r' x y = x.answer ∙ sym y.answer

pub ends_unique : EndsUnique
ends_unique options given r r' x y = x.answer ∙ sym y.answer

pub new_unique : NewUnique
new_unique options r r' x y = x.answer ∙ sym y.answer

pub new_with_options_unique : NewUnique
new_with_options_unique = new_unique

pub number_unique : NumberUnique
number_unique e r r' x y = x.answer ∙ sym y.answer

pub figures_unique : FiguresUnique
figures_unique e r r' x y = same (x.number_is ∙ sym y.number_is) (x.values_are ∙ sym y.values_are)
  where
    same : {n n' : ℕ} {v v' : Values} → n ≡ n' → v ≡ v' → ◌≡◌ {A = Figures} (record { number = n; values = v }) (record { number = n'; values = v' })
    same e f = rw (e, f)

pub is_pool_full_unique : IsPoolFullUnique
is_pool_full_unique e r r' x y = x.answer ∙ sym y.answer
