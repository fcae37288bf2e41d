-- What a line comes to: the call of the reader says what stands on it, and what is left after it is what was left without it.
-- Assumes nothing.
use Prim.Native.Nat.{ℕ, ◌<◌}
use mathlib.Core.Path.{◌≡◌, sym, ap, ap₂, ◌∙◌}
use native.Mathlib.Omega.{arith}
use mathlib.Core.Bool.{Bool, true, false, ◌&&◌}
use mathlib.Core.List.{List, [], ◌∷◌}
use lib.ListN.{length}
use Rattle.std.specs.Prelude.{if◌then◌else◌}
use Rattle.record.specs.Meaning.{end_of_file}
use Rattle.record.specs.Record.{meant}
use Rattle.record.specs.declared.Record.{Record}
use Rattle.reader.specs.declared.ReaderError.{ReaderError}
use Rattle.reader.specs.declared.Replied.{Replied}
use Rattle.reader.specs.Told.{refusal_of}
use Rattle.reader.specs.Row.{Numbered, is_end, stops, through_stop}
use Rattle.reader.specs.Text.{Next}
use Rattle.reader.specs.Along.{unread}
use Rattle.intel.proofs.Calls.{One, after_refused, came_done, fewer_unread}
use Rattle.salvage.specs.declared.Entry.{Entry as CodeEntry}
use Rattle.salvage.specs.declared.Walk.{Walk}
use Rattle.salvage.specs.declared.Turn.{Turn}
use Rattle.salvage.specs.declared.Turn.TheVariants.{Keeps, Drops, Ends, Missing}
use Rattle.salvage.specs.Salvage.{refused, base_unknown, Fate, kept, dropped, fate_of, fate, still_known, known_behind, Sorted, of, sorted, past_refusals, records, end_added, entries}
use Rattle.salvage.specs.Helpers.{Tells, Sorts, left, UnderWay, Onward, DroppedOn, SortsNext}
use Rattle.std.specs.Prelude.{Err, None, Some}

-- ---- the next line

module _ (text : List ℕ) (w : Walk) (pool : List ℕ) (r : Replied) (pool' : List ℕ) (under : UnderWay text w) (room : length pool ≡ 255) (next : Next w.state text pool 0 r pool') where
  abbrev Here : Record → Type 0
  Here x = One w.state text pool r pool' under.options under.countable room next x

  -- what is left, cut at the line that was read
  left_read : (x : Record) (one : Here x) → let m = meant x pool' in
      left w text ≡ of r.state.line (fate_of w.known m) ∷ sorted (still_known w.known m) (if is_end m && true then [] else through_stop past_refusals one.more)
  unfolding sorted through_stop stops fate known_behind
  left_read x one = rw (one.first, one.means)

  -- and after it, unless it is the end
  left_more : (x : Record) (one : Here x) (known : Bool) → is_end (meant x pool') ≡ false
      → left (record { state = r.state; known = known }) text ≡ sorted known (through_stop past_refusals one.more)
  left_more x one known e =
      ap (λ (row : List Numbered). sorted known (through_stop past_refusals row))
      (one.left ∙ ap (λ (b : Bool). if b && true then [] else one.more) (ap is_end (sym one.means) ∙ e))

  left_end : (x : Record) → Here x → meant x pool' ≡ end_of_file → left w text ≡ of r.state.line (kept end_of_file) ∷ []
  unfolding sorted fate_of still_known is_end
  left_end x one e = left_read x one ∙ rw e

  under_way_after : (x : Record) → Here x → (known : Bool) → UnderWay text (record { state = r.state; known = known })
  under_way_after x one known = record { options = one.options; countable = one.countable }

  shorter : (x : Record) (one : Here x) → length (unread r.state text) < length (unread w.state text)
  shorter x one = fewer_unread w.state text pool r pool' under.options under.countable room next x one

  onward : (x : Record) → Here x → (known : Bool) → Onward text w (record { state = r.state; known = known })
  onward x one known = record { under_way = under_way_after x one known; less = shorter x one }

  pub sorted_record : (x : Record) → Here x → length pool' ≡ 255 → (t : Turn) → Sorts r.state w.known x (meant x pool') t → SortsNext text w pool' t
  unfolding records entries is_end
  sorted_record x one l (Keeps y w') (is, f, e, q) =
      let m = meant x pool' in
      let here : left w text ≡ of r.state.line (kept m) ∷ left (record { state = r.state; known = still_known w.known m }) text =
      left_read x one ∙ ap₂ (λ (a : Fate) (xs : List Sorted). of r.state.line a ∷ xs) f
      (ap (λ (b : Bool). sorted (still_known w.known m) (if b && true then [] else through_stop past_refusals one.more)) e ∙ sym (left_more x one (still_known w.known m) e)) in
      rw (is, q) (record {
        onward = onward x one (still_known w.known m);
        lies = one.lies l;
        saved = ap records here ∙ ap (λ (b : Bool). m ∷ (if b then [] else records (left (record { state = r.state; known = still_known w.known m }) text))) e;
        listed = ap entries here ∙ ap (λ (b : Bool). if b then [] else entries (left (record { state = r.state; known = still_known w.known m }) text)) e;
      })
  sorted_record x one l (Drops y w') (tells, f, e, q) =
      let m = meant x pool' in
      let here : left w text ≡ of r.state.line (dropped base_unknown) ∷ left (record { state = r.state; known = still_known w.known m }) text =
      left_read x one ∙ ap₂ (λ (a : Fate) (xs : List Sorted). of r.state.line a ∷ xs) f
      (ap (λ (b : Bool). sorted (still_known w.known m) (if b && true then [] else through_stop past_refusals one.more)) e ∙ sym (left_more x one (still_known w.known m) e)) in
      rw q (record {
        onward = onward x one (still_known w.known m);
        line = r.state.line;
        why = base_unknown;
        tells = tells;
        saved = ap records here;
        listed = ap entries here;
      })
  sorted_record x one l Ends e = (ap records (left_end x one e), ap entries (left_end x one e))
  sorted_record x one l Missing e = absurd e

  pub sorted_refused : (e : ReaderError) → r.reply ≡ Some (Err e) → (x : CodeEntry) → Tells x r.state.line (refused (refusal_of e))
      → DroppedOn text w x (record { state = r.state; known = false })
  unfolding sorted through_stop stops fate known_behind records entries
  sorted_refused e q x tells =
      let a = after_refused w.state text pool r pool' under.options under.countable room next e q in
      record {
        onward = record { under_way = record { options = a.options; countable = a.countable }; less = rw (a.first, a.left) (omega arith) };
        line = r.state.line;
        why = refused (refusal_of e);
        tells = tells;
        saved = rw (a.first, a.left);
        listed = rw (a.first, a.left);
      }

  pub sorted_done : r.reply ≡ None → (records (left w text) ≡ end_of_file ∷ []) × (entries (left w text) ≡ end_added ∷ [])
  unfolding sorted through_stop records entries
  sorted_done q = let u = came_done w.state text pool r pool' under.options under.countable room next q in (rw u, rw u)
