use Rattle.{std.proofs.Common.{arith, ap, sym, subst, ◌∙◌, codes, Some}, clap.{specs.Words.{found_of}, proofs.WalkLemmas.{one_text-rows}}}
use Rattle.program_words.specs.Asked.{IsName}
use Rattle.program_words.proofs.reading.table_of.Goals as goal

pub returns-clause-ok : goal.returns-clause-ok
returns-clause-ok c =
    let found = found_of c.args.values.now in
    let name = c.in-Some.ensures.some in
    let reads = one_text-rows found (codes "header") in
    let flag = c.get_flag-header.ensures in
    let truth = c.requires.header in
    record {
      name = c.required.ensures ∙ ap Some (sym name.2);
      is_name = subst IsName (sym name.2) (name.0, name.1);
      file = c.required-2.ensures ∙ ap Some (sym c.in_ok-file.ensures.ok);
      header = ((λ e. grind arith), λ e. flag.value (reads ∙ e));
    }
