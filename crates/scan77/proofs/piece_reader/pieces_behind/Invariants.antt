use Rattle.std.proofs.Common.{◌≡◌, ◌++◌, drop}
use Rattle.card_reader.specs.Scan.{scan_of}
use Rattle.scan77.specs.PieceReading.{no_text, pieces_from}
use Rattle.scan77.specs.PieceReader.{read_so_far, IsMarked}
use Rattle.scan77.proofs.piece_reader.pieces_behind.Given as goal

-- the pieces so far and those of what is left are those of all
abbrev pub invariant-loop-byte : goal.invariant-loop-byte
invariant-loop-byte l = record {
  marked : IsMarked l.reader;
  same : (read_so_far l.reader).pieces ++ pieces_from (scan_of l.scan) (read_so_far l.reader).current (drop l.byte-index l.text) ≡ pieces_from (scan_of l.fn.start) no_text l.text;
}
