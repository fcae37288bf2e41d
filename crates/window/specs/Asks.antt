-- One byte asked, and what a load leaves through one window or a table: the two agree, whatever source reads the text. Document 02, wish 13. Each
-- claim is proved in `proofs/Asks.antt`.
-- Assumes nothing.
use Rattle.std.specs.Prelude.{◌≡◌, ◌⊎◌, ℕ, ◌+◌, ◌<◌, List, length, get_or}
use Rattle.std.proofs.Math.Option.{some}
use Rattle.marks.specs.Marks.{mark_at}
use Rattle.steps.specs.Steps.{Tally, accepted}
use Rattle.steps.specs.Source.{Source}
use Rattle.steps.specs.Ask.{ask, Shows, Like, Outside}
use Rattle.window.specs.declared.Row.{Row}
use Rattle.window.specs.Claims.{Window}
use Rattle.window.specs.Load.{load_window}
use Rattle.window.specs.Table.{site_of, BadTable}
use Rattle.window.specs.Tables.{load_table}

-- of each text that a load accepts, at every place of the window: it is marked exactly if the byte of its address is stated, and then holds that byte
abbrev pub AskedInWindow : Type 1
AskedInWindow =
    (S : Type 0) (src : Source S) (text : List ℕ) (first : ℕ) (page marks : List ℕ) (tally : Tally)
    → let l = load_window src text first page marks in
    l.answer ≡ accepted tally → (i : ℕ) → i < length page → Shows (ask src (first + i) text) (get_or page i 0) (mark_at l.marks i) (get_or l.page i 0)

-- so it is at every place of an owner's windows
abbrev pub AskedByTable : Type 1
AskedByTable =
    (S : Type 0) (src : Source S) (owner : ℕ) (rows : List Row) (text pool marks : List ℕ) (tally : Tally)
    → let l = load_table src owner rows text pool marks in
    l.answer ≡ accepted tally → (i address : ℕ) → i < length pool → site_of owner rows i ≡ some address
    → Shows (ask src address text) (get_or pool i 0) (mark_at l.marks i) (get_or l.page i 0)

-- in a good window both accept a text, or both refuse it alike, or the load is refused with 17
abbrev pub LikeInWindow : Type 1
LikeInWindow =
    (S : Type 0) (src : Source S) (text : List ℕ) (first : ℕ) (page marks : List ℕ) (address : ℕ) → Window first page marks
    → let v = (load_window src text first page marks).answer in
    Like v (ask src address text) ⊎ Outside v

-- and through a good table
abbrev pub LikeByTable : Type 1
LikeByTable =
    (S : Type 0) (src : Source S) (owner : ℕ) (rows : List Row) (text pool marks : List ℕ) (address : ℕ) → ¬ BadTable owner (length pool) (length marks) rows
    → let v = (load_table src owner rows text pool marks).answer in
    Like v (ask src address text) ⊎ Outside v
