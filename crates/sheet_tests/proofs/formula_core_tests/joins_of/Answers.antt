use Rattle.{std.proofs.Common.{◌≡◌, Ok, refl, ap, subst}, arrays_core.specs.Arrays.{ArrayValue, IsArray}}
use Rattle.{index_region.{specs.declared.delta.Delta.{Delta}, specs.Patches.{patched}}, change_rules.specs.Currency.{applied}}
use Rattle.sheet_tests.proofs.OneName.{one_change, told_of_one}
use Rattle.sheet_tests.proofs.formula_core_tests.joins_of.Goals as goal

pub plan-requires : goal.plan-requires
plan-requires g c =
    let a = c.args.array.now in
    let d = c.args.delta.now in
    let b = patched a c.in-Patch.patch in
    let becomes : applied d (Ok a) ≡ Ok b = ap (λ (e : Delta). applied e (Ok a)) c.in-Patch.is in
    let sound : IsArray b = subst IsArray c.patched-2.ensures c.item_type-sound_now.ensures.sound in (
      one_change a b d becomes c.requires.fit c.shape-sound.ensures.sound sound,
      told_of_one a b d becomes c.requires.fit c.shape-sound.ensures.sound sound c.args.formula.now (λ old. c.requires.held) c.requires.one _ (record { is = ap (λ (x : ArrayValue). Ok x) c.patched.ensures; same = refl; delta = refl }),
    )
