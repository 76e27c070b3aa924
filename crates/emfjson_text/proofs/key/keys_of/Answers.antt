use Rattle.std.proofs.Common.{rules, ◌++◌, ◌∷◌, [], ap, ap₂, ◌∙◌, map}
use Rattle.std.specs.Ordering.{is_lt}
use Rattle.std.proofs.lemmas.Fn.{always_returns_same}
use Rattle.std.proofs.lemmas.List.Sorted.{ranks_by}
use Rattle.finite_maps.specs.Sorts.{in_order}
use Rattle.finite_maps.proofs.SortLaws.{sorted_is}
use Rattle.model_texts.specs.declared.key.Key.TheVariants.{Ident, Class, Feature}
use Rattle.model_texts.specs.Keys.{key_cmp, keys_of}
use Rattle.model_texts.proofs.Order.{key_order}
use Rattle.emfjson_text.proofs.key.keys_of.Goals as goal

pub returns : goal.returns
unfolding keys_of
returns c =
    let meta = c.args.meta.now in
    c.from_vec.ensures
    ∙ sorted_is (key_order meta) c.push_features.new.keys.items c.sort_unstable_by.new.self.items c.sort_unstable_by.ensures.permutation
    (c.sort_unstable_by.ensures.sorted (λ x y. is_lt (key_cmp meta x y)) (ranks_by (key_order meta).total (λ x. x))
    (always_returns_same _ _ _ (λ a r f' k. search rules)))
    ∙ ap (in_order (key_cmp meta))
    (c.in_ok-push_features.ensures
    ∙ ap₂ (λ l fs. l ++ map (λ f. Feature f) fs)
    (c.in_ok-push-2.ensures.items ∙ ap (λ l. l ++ Class ∷ []) (c.in_ok-push.ensures.items ∙ ap (λ l. l ++ Ident ∷ []) c.new-keys.ensures.items))
    c.features_of.ensures)
