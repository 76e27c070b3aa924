use Rattle.std.proofs.Common.{◌≡◌, ◌++◌, drop, map}
use Rattle.model_texts.specs.declared.key.Key.TheVariants.{Feature}
use Rattle.emfjson_text.proofs.key.push_features.Given as goal

abbrev pub invariant-loop-f : goal.invariant-loop-f
invariant-loop-f l = l.keys.items ++ map (λ f. Feature f) (drop l.f-index l.features) ≡ l.initial.keys.items ++ map (λ f. Feature f) l.features
