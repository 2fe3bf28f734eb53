use Rattle.{index_region.proofs.Arguments.{whole_of_one}, scan_fns.specs.Scan.{scan_form, scan_item}}
use Rattle.scan_fns.proofs.scan.Scan.apply.Goals as goal

pub returns-in_default : goal.returns-in_default
returns-in_default c =
    let s = c.args.self.now in
    rw (whole_of_one (scan_form s.along) (λ b. scan_item s.function s.along b) c.args.args.now c.requires) at c.apply.ensures
