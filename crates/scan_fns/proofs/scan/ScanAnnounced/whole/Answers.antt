use Rattle.{std.proofs.Common.{subst, sym, Result}, arrays_core.{specs.Arrays.{ArrayValue, IsAnswerTo}, specs.declared.item.Kind.{Kind}}}
use Rattle.{index_region.proofs.Arguments.{whole_of_one}, scan_fns.specs.Scan.{scan_form, scan_item}}
use Rattle.scan_fns.proofs.scan.ScanAnnounced.whole.Goals as goal

pub returns : goal.returns
returns c =
    let s = c.args.self.now in
    subst (λ (w : Result ArrayValue Kind). IsAnswerTo w c.apply.result) (sym (whole_of_one (scan_form s.along) (scan_item s.function s.along) c.args.args.now c.requires)) c.apply.ensures
