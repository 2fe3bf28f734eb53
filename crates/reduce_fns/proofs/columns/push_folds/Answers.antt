use Rattle.std.{proofs.Common.{◌≡◌, ℕ, ◌∙◌, ◌++◌, ◌+◌, ◌-◌, ◌*◌, ap, sym, drop, take, length, arith}, proofs.lemmas.Bool.{eqb-true}, proofs.lemmas.List.{length-drop, take_all}}
use Rattle.reduce_fns.proofs.WrittenEnds.{back_is, written}
use Rattle.reduce_fns.proofs.columns.push_folds.Goals as goal

mul_more : (n m : ℕ) → (n + 1) * m ≡ n * m + m
mul_more n m = omega arith

pub fold_rows-doubt-requires-clause-last : goal.fold_rows-doubt-requires-clause-last
fold_rows-doubt-requires-clause-last g c =
    let rows = c.args.rows.now in
    let columns = c.args.columns in
    let n = c.args.count in
    let p = (n - 1) * columns in
    let back = take (length rows - p) (drop p rows) in
    let is : c.deref_mut.result.now ≡ c.args.folds.now.items ++ back = c.deref_mut.ensures.value ∙ c.in_ok-extend_from_slice.ensures.items in
    let e : n * columns ≡ p + columns = (let one : n ≡ n - 1 + 1 = omega (arith, c.requires.some) in ap (λ m. m * columns) one ∙ mul_more (n - 1) columns) in
    let last : take (length rows - p) (drop p rows) ≡ drop p rows = take_all (length rows - p) (drop p rows) (omega (arith, length-drop p rows)) in
    let here = back_is c.args.folds.now.items back c.deref_mut.result.now is c.len-before.result (c.len-before.ensures ∙ c.args.folds.now.ok.0) ∙ last in
    here ∙ ap (λ m. drop ((n - 1) * m) rows) (sym (ap length here ∙ (omega (arith, length-drop p rows, c.requires.whole))))

pub returns : goal.returns
returns g c = λ sure.
    let rows = c.args.rows.now in
    let columns = c.args.columns in
    let n = c.args.count in
    let p = (n - 1) * columns in
    let items = c.deref_mut.result.now in
    let b = c.len-before.result in
    let before = c.args.folds.now.items in
    let folds = c.fold_rows-doubt.new.folds in
    let back = take (length rows - p) (drop p rows) in
    let is : items ≡ before ++ back = c.deref_mut.ensures.value ∙ c.in_ok-extend_from_slice.ensures.items in
    let front : b ≡ length before = c.len-before.ensures ∙ c.args.folds.now.ok.0 in
    let e : n * columns ≡ p + columns = (let one : n ≡ n - 1 + 1 = omega (arith, c.requires.some) in ap (λ m. m * columns) one ∙ mul_more (n - 1) columns) in
    let same : length folds ≡ length back = c.fold_rows-doubt.ensures.long ∙ ap length (back_is before back items is b front) in
    record {
      folds = folds;
      long = same ∙ (ap length (take_all (length rows - p) (drop p rows) (omega (arith, length-drop p rows))) ∙ omega (arith, length-drop p rows, c.requires.whole));
      is = written before back items is b folds c.extend_from_slice.new.self.items _ front same (c.extend_from_slice.new.self.ok.0 ∙ ap length (sym c.deref_mut.ensures.value));
      folded = c.fold_rows-doubt.ensures.is (eqb-true c.fold_rows-doubt.result 0 sure);
    }
