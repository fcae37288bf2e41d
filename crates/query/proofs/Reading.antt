-- The walk, a call at a time: the answer from what is known stays the whole answer, and at the end it is returned.
-- Assumes nothing.
use Rattle.std.specs.declared.ops.ControlFlow.TheVariants.{Break, Continue}
use Rattle.std.proofs.Common.{◌≡◌, ℕ, ◌^◌, ◌<◌, false, List, [], ◌∷◌, length, sym, refl, ap, ◌∙◌, subst}
use Rattle.record.specs.Line.{wrong}
use Rattle.record.specs.Meaning.{Meaning, data_at, end_of_file, extended_segment, start_segment, extended_linear, start_linear}
use Rattle.record.specs.Record.{meant}
use Rattle.record.specs.declared.Record.{Record}
use Rattle.reader.specs.declared.ReaderError.{ReaderError}
use Rattle.reader.specs.declared.Replied.{Replied}
use Rattle.reader.specs.declared.State.{State}
use Rattle.reader.specs.Told.{refusal_of}
use Rattle.reader.specs.Row.{Numbered, on, is_end}
use Rattle.reader.specs.Text.{Next}
use Rattle.reader.specs.Along.{unread}
use Rattle.steps.specs.declared.LoaderError.TheVariants.{Line, MissingEndOfFileRecord}
use Rattle.intel.specs.Records.{UnderWay}
use Rattle.intel.proofs.Calls.{One, more_unread, fewer_unread, start_under_way}
use Rattle.query.specs.Aliases.{Asked as CodeAsked}
use Rattle.query.specs.Aliases.{CodeTurn}
use Rattle.query.specs.declared.Walk.{Walk}
use Rattle.query.specs.Along.{Known, nothing_known, Turn, goes_on, answers, at_record, onward, asked_along}
use Rattle.query.specs.Ask.{told_asked, ask}
use Rattle.query.specs.Helpers.{Knows, Begun, Comes, Meets, Onward, Answered, Judged}
use Rattle.query.proofs.Along.{ask_along}
use Rattle.query.specs.Aliases.{refuse_asked}

-- a record after which the walk goes on is not the end
not_end : (address n : ℕ) (k k' : Known) (m : Meaning) → at_record address n k m ≡ goes_on k' → is_end m ≡ false
unfolding at_record is_end
not_end address n k k' (data_at offset bytes) e = refl
not_end address n k k' end_of_file e = cc
not_end address n k k' (extended_segment x) e = refl
not_end address n k k' (start_segment cs ip) e = refl
not_end address n k k' (extended_linear x) e = refl
not_end address n k k' (start_linear x) e = refl

-- ---- one call

module _ (address : ℕ) (text : List ℕ) (w : Walk) (pool : List ℕ) (r : Replied) (pool' : List ℕ) (under : UnderWay text w.state) (room : length pool ≡ 255) (next : Next w.state text pool 0 r pool') where
  abbrev Here : Record → Type 0
  Here x = One w.state text pool r pool' under.options under.countable room next x

  -- the walk after the line, with what was known before it
  abbrev there : Walk
  there = record { state = r.state; aim = w.aim; start = w.start; found = w.found }

  -- the answer by the record that was read
  by_record : (x : Record) (one : Here x) (k : Known)
      → asked_along address k (unread w.state text) ≡ onward (at_record address r.state.line k (meant x pool')) (λ k'. asked_along address k' one.more)
  unfolding asked_along
  by_record x one k = rw (one.first, one.means)

  pub judged_record : (x : Record) → Here x → (t : CodeTurn) → Meets address pool' there x t → Judged address text w t
  judged_record x one t m =
      record { answer = λ k h. go k t (at_record address r.state.line k (meant x pool')) refl (m.comes_to k (record { aims = h.aims; start_is = h.start_is; byte_is = h.byte_is })) }
    where
      go : (k : Known) (t : CodeTurn) (u : Turn) → at_record address r.state.line k (meant x pool') ≡ u → Comes address r.state t u → Answered address text w k t
      go k (Continue w') (goes_on k') e (q, h) =
          let more : one.more ≡ unread r.state text = more_unread w.state text pool r pool' under.options under.countable room next x one (not_end address r.state.line k k' (meant x pool') e) in
          let there-is : unread w'.state text ≡ unread r.state text = ap (λ (s : State). unread s text) q in
          record {
            known = k';
            knows = h;
            under_way = rw q (record { options = one.options; countable = one.countable });
            same = ap (asked_along address k') (there-is ∙ sym more) ∙ sym (by_record x one k ∙ rw e);
            less = rw there-is (fewer_unread w.state text pool r pool' under.options under.countable room next x one);
          }
      go k (Continue w') (answers a) e c = absurd c
      go k (Break a) (goes_on k') e c = absurd c
      go k (Break a) (answers b) e c = c ∙ sym (by_record x one k ∙ rw e)

  pub judged_refused : (e : ReaderError) (more : List Numbered) → unread w.state text ≡ on r.state.line (wrong (refusal_of e)) ∷ more
      → Judged address text w (Break (refuse_asked (Line e) r.state.line))
  unfolding asked_along
  judged_refused e more u = record { answer = λ k h. rw u }

  pub judged_done : unread w.state text ≡ [] → Judged address text w (Break (refuse_asked MissingEndOfFileRecord 0))
  unfolding asked_along
  judged_done u = record { answer = λ k h. rw u }

-- ---- from beginning to end

pub record Reading (address : ℕ) (text pool : List ℕ) (w : Walk) : Type 0 where
  pub known : Known
  pub knows : Knows address w known
  pub under_way : UnderWay text w.state
  pub room : length pool ≡ 255
  pub same : asked_along address known (unread w.state text) ≡ ask text address

module _ (address : ℕ) (text pool : List ℕ) where
  pub reading_start : length text < 2 ^ 64 → length pool ≡ 255 → (w : Walk) → Begun address w → Reading address text pool w
  unfolding unread
  reading_start h l w b =
      record {
        known = nothing_known;
        knows = b.knows;
        under_way = rw b.state_is (start_under_way text h);
        room = l;
        same = rw b.state_is (sym (ask_along text address));
      }
