-- Demand 3 of a load of S-records, and packed marks: what `window` proves of every source.
-- Assumes nothing.
use Rattle.window.proofs.Loads as loads
use Rattle.window.proofs.AsBytes as bytes
use Rattle.window.proofs.Tables as tables
use Rattle.srecload.specs.Placing.{s_records}
use Rattle.srecload.specs.Claims.{NonInterference, WhatIsStored, RefusalChangesNothing, SizesKept, PackedAsBytes, LoadSrecordsUnique, LoadSrecordsTableUnique}

pub non_interference : NonInterference
non_interference = loads.non_interference _ s_records

pub what_is_stored : WhatIsStored
what_is_stored = loads.what_is_stored _ s_records

pub refusal_changes_nothing : RefusalChangesNothing
refusal_changes_nothing = loads.refusal_changes_nothing _ s_records

pub sizes_kept : SizesKept
sizes_kept = loads.sizes_kept _ s_records

pub packed_as_bytes : PackedAsBytes
packed_as_bytes = bytes.packed_as_bytes _ s_records

pub load_srecords_unique : LoadSrecordsUnique
load_srecords_unique = loads.load_window_unique _ s_records

pub load_srecords_table_unique : LoadSrecordsTableUnique
load_srecords_table_unique = tables.load_table_unique _ s_records
