-- The reading of pieces, which goes on in one branch alone where it is computed: a `let` waits.
use Rattle.std.proofs.Common.{◌≡◌, ℕ, not, ◌==◌, List, [], ◌∷◌, refl, if◌then◌else◌}
use Rattle.text_base.specs.Kept.{Scan, scan_start, scan_after}
use Rattle.text_base.specs.Pieces.{Piece}
use Rattle.scan77.specs.PieceReading.{Current, no_text, more_constant, more_counted, closed, closed_counted, closed_constant, last_piece, plain_piece, pieces_from, pieces_of}

abbrev pub lazy_from : Scan → Current → List ℕ → List Piece
lazy_from s current [] = last_piece s current
lazy_from s current (c ∷ t) =
    let inside = closed_counted current (lazy_from (scan_after s c) (more_constant current c) t) in
    let left = closed_constant current (lazy_from (scan_after s c) (more_counted current c) t) in
    let other = closed current (plain_piece c (lazy_from (scan_after s c) no_text t)) in
    if s.inside then inside else (let rest = (if not (s.left == 0) then left else (if c == 39 then inside else other)) in rest)

abbrev pub lazy_pieces : ℕ → List ℕ → List Piece
lazy_pieces label text = lazy_from (scan_start label) no_text text

pub lazily : (s : Scan) (current : Current) (text : List ℕ) → pieces_from s current text ≡ lazy_from s current text
lazily s current [] = refl
lazily s current (c ∷ t) = rw (lazily (scan_after s c) (more_constant current c) t, lazily (scan_after s c) (more_counted current c) t, lazily (scan_after s c) no_text t) refl

pub lazily_cut : (label : ℕ) (text : List ℕ) → pieces_of label text ≡ lazy_pieces label text
lazily_cut label text = lazily (scan_start label) no_text text
