use Rattle.tree77.specs.FormTable.{form_of}
use Rattle.tree77.specs.Spelling.{room_of}
use Rattle.forms77.proofs.Goods.{all_whole}
use Rattle.forms77.proofs.Lower.{Lower}
use Rattle.forms77.proofs.Wholes.{whole_found, whole_only}
use Rattle.forms77.proofs.laws.forms_are_read.Goals as goal

pub returns-clause-found : goal.returns-clause-found
returns-clause-found c = λ k pieces. whole_found low (form_of (room_of pieces) k) (all_whole (room_of pieces) k) pieces
  where
    low : Lower
    low =
        record {
          cut_found = c.one_cut.ensures.found;
          cut_only = c.one_cut.ensures.only;
          cut_next = c.one_cut.ensures.next;
          cut_stuck = c.one_cut.ensures.stuck;
          cut_uncut = c.one_cut.ensures.uncut;
          cut_pieces = c.one_cut.ensures.pieces;
          cut_formed = c.one_cut.ensures.formed;
          parted_between = c.cuts_are_parted.ensures.tokens;
          parted_at_mark = c.cuts_are_parted.ensures.at_mark;
          wide_begins = c.expressions_stop.ensures.begin;
          wide_cut = c.expressions_are_cut.ensures;
          expression_found = c.expressions_are_read.ensures.found;
          expression_only = c.expressions_are_read.ensures.only;
          quoted_found = c.constants_are_quoted.ensures.found;
          quoted_only = c.constants_are_quoted.ensures.only;
          text_found = c.texts_are_read.ensures.found;
          text_only = c.texts_are_read.ensures.only;
        }

pub returns-clause-only : goal.returns-clause-only
returns-clause-only c = λ k pieces. whole_only low (form_of (room_of pieces) k) (all_whole (room_of pieces) k) pieces
  where
    low : Lower
    low =
        record {
          cut_found = c.one_cut.ensures.found;
          cut_only = c.one_cut.ensures.only;
          cut_next = c.one_cut.ensures.next;
          cut_stuck = c.one_cut.ensures.stuck;
          cut_uncut = c.one_cut.ensures.uncut;
          cut_pieces = c.one_cut.ensures.pieces;
          cut_formed = c.one_cut.ensures.formed;
          parted_between = c.cuts_are_parted.ensures.tokens;
          parted_at_mark = c.cuts_are_parted.ensures.at_mark;
          wide_begins = c.expressions_stop.ensures.begin;
          wide_cut = c.expressions_are_cut.ensures;
          expression_found = c.expressions_are_read.ensures.found;
          expression_only = c.expressions_are_read.ensures.only;
          quoted_found = c.constants_are_quoted.ensures.found;
          quoted_only = c.constants_are_quoted.ensures.only;
          text_found = c.texts_are_read.ensures.found;
          text_only = c.texts_are_read.ensures.only;
        }
