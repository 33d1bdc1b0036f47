use Rattle.std.proofs.Common.{◌≡◌, inl, inr, refl, Err, arith}
use Rattle.std.proofs.lemmas.Result.{err_from_is_err_and}
use Rattle.command.specs.declared.store.StoreError.TheVariants.{Failed}
use Rattle.command.proofs.store.store_outputs.Goals as goal

pub returns-in_err-store-clause-failed : goal.returns-in_err-store-clause-failed
returns-in_err-store-clause-failed g c = λ line is.
    let p = err_from_is_err_and c.from_residual.result c.from_residual.ensures.1 in
    let same : c.store.result ≡ Err (Failed line) = cc in
    let failed = c.store.ensures.failed line same in
    ((c.args.text.name.now, inl (refl, c.in_err-store.ensures.others), failed.0), failed.1)

pub returns-in_err-store-2-clause-failed : goal.returns-in_err-store-2-clause-failed
returns-in_err-store-2-clause-failed g c = λ line is.
    let p = err_from_is_err_and c.from_residual-in_err-store-2.result c.from_residual-in_err-store-2.ensures.1 in
    let same : c.store-2.result ≡ Err (Failed line) = cc in
    let failed = c.store-2.ensures.failed line same in
    let others = rw c.in_ok-store.ensures.whole at c.in_err-store-2.ensures.others in
    ((c.args.map.name.now, inr (inl (refl, others)), failed.0), omega (arith, failed.1, c.store.ensures.write_count))

pub returns-clause-failed : goal.returns-clause-failed
returns-clause-failed g c = λ line is.
    let failed = c.store-3.ensures.failed line is in
    let others = rw is at c.store-3.ensures.others in
    let others_2 = rw c.in_ok-store-2.ensures.whole at others in
    let others_3 = rw c.in_ok-store.ensures.whole at others_2 in
    ((c.args.report.name.now, inr (inr (inl (refl, others_3))), failed.0), omega (arith, failed.1, c.store.ensures.write_count, c.store-2.ensures.write_count))
