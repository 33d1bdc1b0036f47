use Rattle.std.proofs.Common.{◌≡◌, ◌∙◌, true, false, sym}
use Rattle.card_reader.specs.Scan.{scan_of}
use Rattle.scan77.specs.PieceReader.{is_open}
use Rattle.scan77.proofs.PieceGrowth.{ends_whole, ends_broken}
use Rattle.scan77.proofs.piece_reader.PieceReader.finish.Goals as goal

pub returns-then-not-is_open : goal.returns-then-not-is_open
returns-then-not-is_open c =
    let r = c.args.self in
    let shut : is_open (scan_of c.args.scan) r.is_constant r.first r.text ≡ false = sym c.is_open-is_open.ensures ∙ c.if-not-is_open.true in
    c.from_marked.ensures ∙ ends_whole (scan_of c.args.scan) r.is_constant r.first r.text r.marks c.requires.marked c.requires.within c.requires.kept shut

pub returns : goal.returns
returns c =
    let r = c.args.self in
    let opened : is_open (scan_of c.args.scan) r.is_constant r.first r.text ≡ true = sym c.is_open-is_open.ensures ∙ c.if-not-is_open.false in
    c.from_marked-2.ensures ∙ ends_broken (scan_of c.args.scan) r.is_constant r.first r.text r.marks c.set.new.self c.requires.marked c.requires.within c.requires.kept opened c.set.ensures
