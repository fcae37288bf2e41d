-- The first pass: what is left of the room and of the places, after each line and at the end.
-- Assumes nothing.
use Prim.Native.Nat.{ℕ, suc, ◌+◌, ◌*◌, ◌-◌, ◌^◌, ◌≤◌, ◌<◌}
use mathlib.Core.Path.{◌≡◌, refl, sym, ap, ap₂, ◌∙◌, subst}
use native.Mathlib.Omega.{arith}
use mathlib.Core.Bool.{Bool, true, false}
use mathlib.Core.List.{List, [], ◌∷◌}
use lib.ListN.{length, length-append, length-drop, drop}
use lib.Seq.{length-take-le}
use borrow.Author.Tests.{lt-ltb, le-ltb, ltb-true, ltb-false}
use lib.Dec.{ltb}
use Rattle.std.specs.Prelude.{Option, None, Some, if◌then◌else◌}
use Rattle.record.specs.Meaning.{Meaning, end_of_file}
use Rattle.record.specs.Record.{meant, Inside}
use Rattle.record.specs.Written.{line_of, payload_of}
use Rattle.record.specs.declared.Record.{Record}
use Rattle.record.specs.declared.Record.TheVariants.{Data}
use Rattle.reader.specs.Lines.{LF}
use Rattle.reader.specs.Row.{row}
use Rattle.reader.specs.Along.{unread}
use Rattle.reader.specs.Text.{new_state}
use Rattle.record.proofs.Writing.{written_length}
use Rattle.reader.proofs.Texts.{lines_few}
use Rattle.writer.proofs.Measuring.{line_length}
use Rattle.intel.specs.Records.{LiesIn}
use Rattle.salvage.specs.declared.Entry.{Entry as CodeEntry}
use Rattle.salvage.specs.declared.Walk.{Walk}
use Rattle.salvage.specs.declared.Turn.{Turn}
use Rattle.salvage.specs.declared.Turn.TheVariants.{Keeps, Drops, Ends, Missing}
use Rattle.salvage.specs.declared.Spare.{Spare}
use Rattle.salvage.specs.Salvage.{Sorted, past_refusals, fates, records, entries, text_of, saved, clean, removed}
use Rattle.salvage.specs.Helpers.{left, UnderWay, KeptOn, DroppedOn, SortsNext, left_of, less, spare_after, WithLine, WithEntry, LineLength, Surveyed}

-- ---- one more

-- one after the other is both
pub less_left : (have used n : ℕ) → less (left_of have used) n ≡ left_of have (used + n)
less_left have used n = go (ltb have used) refl
  where
    more : have < used → left_of have (used + n) ≡ None
    more h = rw (lt-ltb have (used + n) (omega arith))

    further : (b : Bool) → ltb (have - used) n ≡ b → used ≤ have → (if b then None else Some (have - used - n)) ≡ left_of have (used + n)
    further true q h = let u = ltb-true (have - used) n q in rw (lt-ltb have (used + n) (omega arith))
    further false q h = let u = ltb-false (have - used) n q in rw (le-ltb have (used + n) (omega arith)) (ap Some (omega arith))

    go : (b : Bool) → ltb have used ≡ b → less (if b then None else Some (have - used)) n ≡ left_of have (used + n)
    go true e = sym (more (ltb-true have used e))
    go false e = further (ltb (have - used) n) refl (ltb-false have used e)

same_spare : {s s' p p' : Option ℕ} → s ≡ s' → p ≡ p' → ◌≡◌ {A = Spare} (record { space = s; places = p }) (record { space = s'; places = p' })
same_spare a b = rw (a, b)

module _ (self : Spare) where
  pub entry_less : (places : Option ℕ) → places ≡ less self.places 1 → WithEntry self (record { space = self.space; places = places })
  entry_less places' q space places used listed e =
      let one : listed + 1 ≡ suc listed = omega arith in
      same_spare (ap (λ (x : Spare). x.space) e) (q ∙ ap (λ (x : Spare). less x.places 1) e ∙ less_left places listed 1 ∙ ap (left_of places) one)

  pub line_less : (n : ℕ) (space : Option ℕ) → space ≡ less (less self.space n) 1 → WithLine self n (record { space = space; places = self.places })
  line_less n space' q space places used listed e =
      let one : used + n + 1 ≡ used + suc n = omega arith in
      same_spare (q ∙ ap (λ (x : Spare). less (less x.space n) 1) e ∙ ap (λ (x : Option ℕ). less x 1) (less_left space used n) ∙ less_left space (used + n) 1 ∙ ap (left_of space) one)
      (ap (λ (x : Spare). x.places) e)

-- ---- the line of a record

pub length_of_data : (x : Record) (offset at len : ℕ) → x ≡ Data offset at len → LineLength x (11 + 2 * len)
length_of_data x offset at len e pool (i, s) =
    rw e (let l = length-take-le len (drop at pool) (omega (arith, inside e i, length-drop at pool)) in omega (arith, line_length (Data offset at len) pool))
  where
    inside : x ≡ Data offset at len → Inside x (length pool) → at + len ≤ length pool
    inside q j = rw q at j

-- a record other than data has a payload of one length
pub length_of : (x : Record) (n : ℕ) → ((pool : List ℕ) → 11 + 2 * length (payload_of (meant x pool)) ≡ n) → LineLength x n
length_of x n h pool l = sym (h pool) ∙ sym (line_length x pool)

-- ---- the whole text

abbrev pub start : Walk
start = record { state = new_state past_refusals; known = true }

pub start_under_way : (text : List ℕ) → length text < 2 ^ 64 → UnderWay text start
start_under_way text h = record { options = refl; countable = omega (arith, (lines_few text).0) }

pub start_left : (text : List ℕ) → left start text ≡ fates text
unfolding unread fates row
start_left text = refl

-- how long the lines of records are, each with its LF
pub text_cons : (m : Meaning) (ms : List Meaning) → length (text_of (m ∷ ms)) ≡ suc (length (line_of m)) + length (text_of ms)
unfolding text_of
text_cons m ms = omega (arith, length-append (line_of m) (LF ∷ text_of ms))

pub text_none : length (text_of []) ≡ 0
unfolding text_of
text_none = refl

-- a turn leaves less to be said
module _ (text : List ℕ) (w : Walk) (pool' : List ℕ) (t : Turn) (s : SortsNext text w pool' t) where
  pub moves_keeps : (x : Record) (w' : Walk) → t ≡ Keeps x w' → length (unread w'.state text) < length (unread w.state text)
  moves_keeps x w' e = let o : KeptOn text w pool' x w' = subst (SortsNext text w pool') e s in o.onward.less

  pub moves_drops : (x : CodeEntry) (w' : Walk) → t ≡ Drops x w' → length (unread w'.state text) < length (unread w.state text)
  moves_drops x w' e = let o : DroppedOn text w x w' = subst (SortsNext text w pool') e s in o.onward.less

pub record Counting (text pool : List ℕ) (space places : ℕ) (w : Walk) (spare : Spare) : Type 0 where
  pub under_way : UnderWay text w
  pub room : length pool ≡ 255
  pub used : ℕ
  pub listed : ℕ
  pub so_far : spare ≡ spare_after space places used listed
  pub length_is : used + length (text_of (records (left w text))) ≡ length (clean text)
  pub entries_are : listed + length (entries (left w text)) ≡ length (removed text)

at_first : (have : ℕ) → Some have ≡ left_of have 0
at_first have = rw (le-ltb have 0 (omega arith)) (ap Some (omega arith))

module _ (text : List ℕ) (space places : ℕ) where
  pub counting_start : (pool : List ℕ) → length text < 2 ^ 64 → length pool ≡ 255 → (w : Walk) → w ≡ start
      → Counting text pool space places w (record { space = Some space; places = Some places })
  unfolding clean saved removed
  counting_start pool h l w e =
      rw e (record {
        under_way = start_under_way text h;
        room = l;
        used = 0;
        listed = 0;
        so_far = same_spare (at_first space) (at_first places);
        length_is = omega (arith, ap (λ (xs : List Sorted). length (text_of (records xs))) (start_left text));
        entries_are = omega (arith, ap (λ (xs : List Sorted). length (entries xs)) (start_left text));
      })

  module _ (pool : List ℕ) (w : Walk) (spare : Spare) (k : Counting text pool space places w spare) (pool' : List ℕ) (t : Turn) (s : SortsNext text w pool' t) where
    pub counting_keeps : (x : Record) (w' : Walk) → t ≡ Keeps x w' → length pool' ≡ length pool → (n : ℕ) → LineLength x n → (spare' : Spare) → WithLine spare n spare'
        → Counting text pool' space places w' spare'
    counting_keeps x w' e l n ll spare' wl =
        let o : KeptOn text w pool' x w' = subst (SortsNext text w pool') e s in
        record {
          under_way = o.onward.under_way;
          room = l ∙ k.room;
          used = k.used + suc n;
          listed = k.listed;
          so_far = wl space places k.used k.listed k.so_far;
          length_is = omega (arith, k.length_is, ap (λ (ms : List Meaning). length (text_of ms)) o.saved, text_cons (meant x pool') (records (left w' text)), ll pool' o.lies);
          entries_are = omega (arith, k.entries_are, ap length o.listed);
        }

    pub counting_drops : (x : CodeEntry) (w' : Walk) → t ≡ Drops x w' → length pool' ≡ length pool → (spare' : Spare) → WithEntry spare spare' → Counting text pool' space places w' spare'
    counting_drops x w' e l spare' we =
        let o : DroppedOn text w x w' = subst (SortsNext text w pool') e s in
        record {
          under_way = o.onward.under_way;
          room = l ∙ k.room;
          used = k.used;
          listed = suc k.listed;
          so_far = we space places k.used k.listed k.so_far;
          length_is = omega (arith, k.length_is, ap (λ (ms : List Meaning). length (text_of ms)) o.saved);
          entries_are = omega (arith, k.entries_are, ap length o.listed);
        }

    -- a record that is kept has a short payload
    pub keeps_lies : (x : Record) (w' : Walk) → t ≡ Keeps x w' → LiesIn x pool'
    keeps_lies x w' e = let o : KeptOn text w pool' x w' = subst (SortsNext text w pool') e s in o.lies

    end_length : records (left w text) ≡ end_of_file ∷ [] → k.used + 12 ≡ length (clean text)
    end_length e =
        omega (arith, k.length_is, ap (λ (ms : List Meaning). length (text_of ms)) e, text_cons end_of_file [], text_none, written_length 1 0 [])

    pub counting_ends : t ≡ Ends → (spare' : Spare) → WithLine spare 11 spare' → Surveyed text space places spare'
    counting_ends e spare' wl =
        let (r, q) = subst (SortsNext text w pool') e s in
        wl space places k.used k.listed k.so_far ∙ ap₂ (spare_after space places) (omega (arith, end_length r)) (omega (arith, k.entries_are, ap length q))

    pub counting_missing : t ≡ Missing → (s₁ s₂ : Spare) → WithLine spare 11 s₁ → WithEntry s₁ s₂ → Surveyed text space places s₂
    counting_missing e s₁ s₂ wl we =
        let (r, q) = subst (SortsNext text w pool') e s in
        we space places (k.used + 12) k.listed (wl space places k.used k.listed k.so_far)
        ∙ ap₂ (spare_after space places) (end_length r) (omega (arith, k.entries_are, ap length q))
