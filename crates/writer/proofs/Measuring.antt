-- The length of each record's line, eleven characters and two for each byte of its payload, which a data record states and any other
-- type fixes.
-- Assumes nothing.
use Rattle.std.proofs.Common.{◌≡◌, ℕ, ◌+◌, ◌*◌, ◌≤◌, List, length, ap, arith, le-leb}
use Rattle.record.specs.declared.Record.TheVariants.{Data, EndOfFile, ExtendedSegmentAddress, StartSegmentAddress, ExtendedLinearAddress, StartLinearAddress}
use Rattle.record.specs.Record.{meant}
use Rattle.record.specs.Written.{kind_of, address_of, payload_of}
use Rattle.digits.proofs.Parts.{part_length}
use Rattle.record.proofs.Writing.{written_length}
use Rattle.writer.specs.Told.{wrote}
use Rattle.writer.specs.Text.{place_behind}
use Rattle.writer.specs.Line.{line_text}
use Rattle.writer.specs.Claims.{LineLength}

pub line_length : LineLength
line_length r pool = written_length (kind_of (meant r pool)) (address_of (meant r pool)) (payload_of (meant r pool))

pub fits_line : (offset at len : ℕ) (pool : List ℕ) → at + len ≤ length pool → len ≤ 255 → wrote (11 + 2 * len) ≡ place_behind (line_text (Data offset at len) pool) 0
fits_line offset at len pool inside h =
    let n = part_length pool at len inside in
    let l = line_length (Data offset at len) pool in
    rw (le-leb (at + len) (length pool) inside, le-leb len 255 h) (ap wrote (omega arith))

-- the others are as long as their type says
pub plain_end : (pool : List ℕ) → wrote 11 ≡ place_behind (line_text EndOfFile pool) 0
plain_end pool = ap wrote (let l = line_length EndOfFile pool in omega arith)

pub plain_segment : (pool : List ℕ) (a : ℕ) → wrote 15 ≡ place_behind (line_text (ExtendedSegmentAddress a) pool) 0
plain_segment pool a = ap wrote (let l = line_length (ExtendedSegmentAddress a) pool in omega arith)

pub plain_start : (pool : List ℕ) (cs ip : ℕ) → wrote 19 ≡ place_behind (line_text (StartSegmentAddress cs ip) pool) 0
plain_start pool cs ip = ap wrote (let l = line_length (StartSegmentAddress cs ip) pool in omega arith)

pub plain_linear : (pool : List ℕ) (a : ℕ) → wrote 15 ≡ place_behind (line_text (ExtendedLinearAddress a) pool) 0
plain_linear pool a = ap wrote (let l = line_length (ExtendedLinearAddress a) pool in omega arith)

pub plain_long : (pool : List ℕ) (a : ℕ) → wrote 19 ≡ place_behind (line_text (StartLinearAddress a) pool) 0
plain_long pool a = ap wrote (let l = line_length (StartLinearAddress a) pool in omega arith)
