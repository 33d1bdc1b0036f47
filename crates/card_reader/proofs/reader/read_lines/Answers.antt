use Rattle.std.proofs.Common.{◌≡◌, ◌∙◌, ◌++◌, ◌<◌, ℕ, List, [], None, ap, refl, sym, length, map, arith}
use Rattle.std.specs.Option.{option_map}
use Rattle.std.proofs.lemmas.Grind.{common_steps}
use Rattle.text_base.specs.Lines.{lines}
use Rattle.text_base.specs.LineRefusals.{refused_at}
use Rattle.text_base.specs.declared.refusal.Place.{Place}
use Rattle.text_base.specs.declared.refusal.Refusal.{Refusal}
use Rattle.card_reader.specs.Check.{read_fault, read_refusals, state_of}
use Rattle.card_reader.specs.Deck.{Contents, card_of, deck_comments, with_lines}
use Rattle.card_reader.proofs.Checking.{refusals_same, refusals_more}
use Rattle.card_reader.proofs.Gathering.{read_more, statements_are, cut_is}
use Rattle.card_reader.proofs.Waiting.{comments_are}
use Rattle.card_reader.proofs.reader.read_lines.Goals as goal

pub loop-left-init : goal.loop-left-init
loop-left-init c = record {
  refusals = ap (λ (list : List Refusal). list ++ read_refusals c.args.file 1 None (lines c.args.bytes.now)) c.new.ensures ∙ refusals_same c.args.file 1 None (lines c.args.bytes.now);
  deck = λ none. ap (with_lines c.args.file 1 (lines c.args.bytes.now)) c.new-2.ensures;
  place = refl;
  few = omega arith;
  counted = record { continued = tt; cut = let none = ap (λ (deck : Contents). deck.cut) c.new-2.ensures in omega (arith, none) };
}

pub loop-left-preserved : goal.loop-left-preserved
loop-left-preserved c =
    let some : 0 < length c.loop-left.left.now = grind (arith, common_steps) in
    let cut = c.next_line.ensures.line some in
    let shorter = c.next_line.ensures.shorter some in
    let old = c.loop-left.reader in
    let line = c.next_line.result.0.now in
    let rest = lines c.next_line.result.1.now in
    let state = option_map state_of old.state in
    let known = c.in_ok-take_line.ensures in
    let next = ap (λ (place : Place). place.line) known.next in
    record {
      refusals =
          ap (λ n. c.take_line.new.self.refusals ++ read_refusals c.args.file n (option_map state_of c.take_line.new.self.state) rest) next
          ∙ refusals_more c.args.file old.next.line state _ (read_fault state line) old.refusals _ _ line rest refl known.state
          (known.refusals ∙ ap (λ file. old.refusals ++ refused_at file old.next.line (read_fault state line)) c.loop-left.invariant.place)
          (ap (λ (ls : List (List ℕ)). old.refusals ++ read_refusals c.args.file old.next.line state ls) (sym cut) ∙ c.loop-left.invariant.refusals);
      deck = read_more c.args.file old.next c.take_line.new.self.next old.refusals _ c.take_line.new.self.refusals old.deck c.take_line.new.self.deck _ line rest (lines c.loop-left.left.now)
          c.loop-left.invariant.place known.next cut known.refusals known.deck c.loop-left.invariant.deck;
      place = ap (λ (place : Place). place.file) known.next ∙ c.loop-left.invariant.place;
      few = omega (arith, next, shorter, c.loop-left.invariant.few);
      counted = known.counted;
    }

pub returns-clause-cards : goal.returns-clause-cards
returns-clause-cards c = λ none.
    let end : c.loop-left.left.now ≡ [] = grind (arith, common_steps) in
    let known = ap (λ (l : List ℕ). with_lines c.args.file c.loop-left.reader.next.line (lines l) c.loop-left.reader.deck) (sym end) ∙ c.loop-left.invariant.deck none in
    ap (λ (deck : Contents). map card_of deck.statements) known ∙ statements_are c.args.file c.args.bytes.now

pub returns-clause-comments : goal.returns-clause-comments
returns-clause-comments c = λ none.
    let end : c.loop-left.left.now ≡ [] = grind (arith, common_steps) in
    let known = ap (λ (l : List ℕ). with_lines c.args.file c.loop-left.reader.next.line (lines l) c.loop-left.reader.deck) (sym end) ∙ c.loop-left.invariant.deck none in
    ap deck_comments known ∙ comments_are c.args.file c.args.bytes.now

pub returns-clause-cut : goal.returns-clause-cut
returns-clause-cut c = λ none.
    let end : c.loop-left.left.now ≡ [] = grind (arith, common_steps) in
    let known = ap (λ (l : List ℕ). with_lines c.args.file c.loop-left.reader.next.line (lines l) c.loop-left.reader.deck) (sym end) ∙ c.loop-left.invariant.deck none in
    ap (λ (deck : Contents). deck.cut) known ∙ cut_is c.args.file c.args.bytes.now
