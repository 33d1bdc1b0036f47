-- What texts and FORMAT statements are read as is what they are.
use Rattle.std.proofs.Common.{◌≡◌, ℕ, true, List, [], ◌∷◌, Some, refl, sym, ap, ◌∙◌, subst}
use Rattle.std.proofs.lemmas.Option.{same_Some}
use Rattle.text_base.specs.Formats as format
use Rattle.text_base.specs.Formats.{FormatItems, SpellsFormat, IsRefusedFormat}
use Rattle.text_base.specs.Pieces.{Piece, IsPieces}
use Rattle.tree77.specs.Forms.{IsFormatText, text_spelled, text_refused}
use Rattle.tree77.specs.FormWords.{unsupported}
use Rattle.tree77.specs.Lexemes.{Part}
use Rattle.tree77.specs.Spelling.{IsFormatBody, body_spelled, body_refused}
use Rattle.tree77.specs.Statements as stmt
use Rattle.tree77.specs.Statements.{Statement}
use Rattle.scan77.specs.PieceReading.{format_pieces_of}
use Rattle.format77.specs.Reading.{Outcome, accepted, refused, no_format, format_of}
use Rattle.format77.specs.TextReading.{items_and_parts, read_text}
use Rattle.format77.proofs.FormatLaw.{accepted_found, refused_found, accepted_is, refused_is}

-- ---- one or the other

-- what is read is a format of these items, or one that is refused with a word
data Reads (pieces : List Piece) (items : FormatItems) (ps : List Part) : Type 0 where
  reads_spelled : SpellsFormat 0 pieces items → ps ≡ [] → Reads pieces items ps
  reads_refused : (word : List ℕ) → IsRefusedFormat 0 pieces word → items ≡ format.none → ps ≡ unsupported word ∷ [] → Reads pieces items ps

reads : (pieces : List Piece) (items : FormatItems) (ps : List Part) → items_and_parts (format_of 0 pieces) ≡ Some (items, ps) → Reads pieces items ps
reads pieces items ps e = go (format_of 0 pieces) refl e
  where
    go : (o : Outcome) → format_of 0 pieces ≡ o → items_and_parts o ≡ Some (items, ps) → Reads pieces items ps
    go (accepted x) f g =
        let same : (x, []) ≡ (items, ps) = same_Some _ _ g in
        reads_spelled (accepted_is 0 pieces items (f ∙ ap (λ (r : FormatItems × List Part). accepted r.0) same)) (sym (ap (λ (r : FormatItems × List Part). r.1) same))
    go (refused w) f g =
        let same : (format.none, unsupported w ∷ []) ≡ (items, ps) = same_Some _ _ g in
        reads_refused w (refused_is 0 pieces w f) (sym (ap (λ (r : FormatItems × List Part). r.0) same)) (sym (ap (λ (r : FormatItems × List Part). r.1) same))
    go no_format f g = absurd cc

spelled_read : (pieces : List Piece) (items : FormatItems) (ps : List Part) → SpellsFormat 0 pieces items → ps ≡ [] → items_and_parts (format_of 0 pieces) ≡ Some (items, ps)
spelled_read pieces items ps s e = ap items_and_parts (accepted_found 0 pieces items s) ∙ ap (λ qs. Some (items, qs)) (sym e)

refused_read : (pieces : List Piece) (word : List ℕ) (items : FormatItems) (ps : List Part) → IsRefusedFormat 0 pieces word → items ≡ format.none → ps ≡ unsupported word ∷ [] → items_and_parts (format_of 0 pieces) ≡ Some (items, ps)
refused_read pieces word items ps r none e = ap items_and_parts (refused_found 0 pieces word r) ∙ ap (λ x. Some (x, unsupported word ∷ [])) (sym none) ∙ ap (λ qs. Some (items, qs)) (sym e)

-- ---- FORMAT statements

pub body_found : (pieces : List Piece) (items : FormatItems) (ps : List Part) → items_and_parts (format_of 0 pieces) ≡ Some (items, ps) → IsFormatBody pieces (stmt.declared (stmt.format items)) ps
body_found pieces items ps e = go (reads pieces items ps e)
  where
    go : Reads pieces items ps → IsFormatBody pieces (stmt.declared (stmt.format items)) ps
    go (reads_spelled s f) = body_spelled s refl f
    go (reads_refused w r none f) = body_refused r (ap (λ x. stmt.declared (stmt.format x)) none) f

pub body_only : (pieces : List Piece) (s : Statement) (ps : List Part) → IsFormatBody pieces s ps → (items : FormatItems) × (s ≡ stmt.declared (stmt.format items)) × (items_and_parts (format_of 0 pieces) ≡ Some (items, ps))
body_only pieces s ps (body_spelled {items} sp is e) = (items, is, spelled_read pieces items ps sp e)
body_only pieces s ps (body_refused {word} r is e) = (format.none, is, refused_read pieces word format.none ps r refl e)

-- ---- texts

pub text_found : ((text : List ℕ) → IsPieces true text (format_pieces_of text)) → (characters : List ℕ) (items : FormatItems) (ps : List Part) → read_text characters ≡ Some (items, ps) → IsFormatText characters items ps
text_found pieces characters items ps e = go (reads (format_pieces_of characters) items ps e)
  where
    go : Reads (format_pieces_of characters) items ps → IsFormatText characters items ps
    go (reads_spelled s f) = text_spelled (format_pieces_of characters, pieces characters, s) f
    go (reads_refused w r none f) = text_refused (format_pieces_of characters, pieces characters, r) none f

pub text_only : ((text : List ℕ) (pieces : List Piece) → IsPieces true text pieces → pieces ≡ format_pieces_of text) → (characters : List ℕ) (items : FormatItems) (ps : List Part) → IsFormatText characters items ps → read_text characters ≡ Some (items, ps)
text_only one characters items ps (text_spelled s e) = spelled_read (format_pieces_of characters) items ps (subst (λ pieces. SpellsFormat 0 pieces items) (one characters s.0 s.1) s.2) e
text_only one characters items ps (text_refused {shown} r none e) = refused_read (format_pieces_of characters) shown items ps (subst (λ pieces. IsRefusedFormat 0 pieces shown) (one characters r.0 r.1) r.2) none e
