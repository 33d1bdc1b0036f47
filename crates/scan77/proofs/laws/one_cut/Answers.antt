use Rattle.scan77.proofs.TokenCut.{cut_found, cut_only, cut_formed, cut_pieces, cut_joined, cut_next}
use Rattle.scan77.proofs.TokenStuck.{cut_stuck, stuck_uncut}
use Rattle.scan77.proofs.laws.one_cut.Goals as goal

pub returns-clause-found : goal.returns-clause-found
returns-clause-found c = cut_found

pub returns-clause-only : goal.returns-clause-only
returns-clause-only c = cut_only

pub returns-clause-pieces : goal.returns-clause-pieces
returns-clause-pieces c = cut_pieces

pub returns-clause-formed : goal.returns-clause-formed
returns-clause-formed c = cut_formed

pub returns-clause-joined : goal.returns-clause-joined
returns-clause-joined c = cut_joined

pub returns-clause-next : goal.returns-clause-next
returns-clause-next c = cut_next

pub returns-clause-stuck : goal.returns-clause-stuck
returns-clause-stuck c = cut_stuck

pub returns-clause-uncut : goal.returns-clause-uncut
returns-clause-uncut c = stuck_uncut
