-- The scan of kept text as the record of the definitions.
use Rattle.text_base.specs.Kept as kept
use Rattle.card_reader.specs.declared.scan.Scan.{Scan}

-- the parts of the scan, one by one
abbrev pub scan_of : Scan → kept.Scan
scan_of scan = record { matched = scan.matched; inside = scan.inside; left = scan.left; count = scan.count }
