-- Demand 3 of a load of Intel HEX, and packed marks: what `window` proves of every source.
-- Assumes nothing.
use mathlib.Core.Option.{some}
use Rattle.steps.proofs.Sites.{owed_unique}
use Rattle.window.proofs.Loads as loads
use Rattle.window.proofs.Tables as tables
use Rattle.window.proofs.AsBytes as bytes
use Rattle.intel.specs.Placing.{intel}
use Rattle.loader.specs.Claims.{NonInterference, WhatIsStored, OwedAtUnique, RefusalChangesNothing, SizesKept, LoadUnique, LoadTableUnique}
use Rattle.loader.specs.Packed.{PackedAsBytes}

pub non_interference : NonInterference
non_interference = loads.non_interference _ intel

pub what_is_stored : WhatIsStored
what_is_stored = loads.what_is_stored _ intel

pub owed_at_unique : OwedAtUnique
owed_at_unique ps a old m m' b b' x y = owed_unique (some a) ps old 0 m m' b b' x y

pub refusal_changes_nothing : RefusalChangesNothing
refusal_changes_nothing = loads.refusal_changes_nothing _ intel

pub sizes_kept : SizesKept
sizes_kept = loads.sizes_kept _ intel

pub load_table_unique : LoadTableUnique
load_table_unique = tables.load_table_unique _ intel

pub load_unique : LoadUnique
load_unique = loads.load_window_unique _ intel

pub packed_as_bytes : PackedAsBytes
packed_as_bytes = bytes.packed_as_bytes _ intel
