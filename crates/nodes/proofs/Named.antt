-- A table from texts answers as the one from ids.
use Rattle.std.proofs.Common.{◌≡◌, ℕ, cond, List, [], ◌∷◌, refl, sym, ap, ◌∙◌}
use Rattle.std.specs.Prelude.{String, string_bytes, string_eq, Option, Some}
use Rattle.std.specs.Map.{lookup}
use Rattle.std.specs.HashMap.{HashMap, UpdatesBy}
use Rattle.std.specs.Str.{bytes_eq}
use Rattle.std.proofs.lemmas.Map.Text.{hash_map_updates_text}
use Rattle.finite_maps.specs.Equal.{text_eq}
use Rattle.model_state.specs.Keys.{IdBytes}
use Rattle.nodes.specs.Tied.{named}

module _ {Y : Type 0} where
  pub lookup-named : (es : List (String Y × ℕ)) (q : IdBytes) → lookup (text_eq q) (named es) ≡ lookup (λ k. bytes_eq q (string_bytes k)) es
  lookup-named [] q = refl
  lookup-named (e ∷ es) q = ap (cond (text_eq q (string_bytes e.0)) (Some e.1)) (lookup-named es q)

  -- what a call found by the text t of the id
  pub lookup-text : (es : List (String Y × ℕ)) (q t : IdBytes) → t ≡ q → (o : Option ℕ) → o ≡ lookup (λ k. bytes_eq t (string_bytes k)) es
      → lookup (text_eq q) (named es) ≡ o
  lookup-text es q t same o is = lookup-named es q ∙ ap (λ x. lookup (λ k. bytes_eq x (string_bytes k)) es) (sym same) ∙ sym is

  -- and what a call wrote by it
  pub updates-text : {S : Type 0} (m n : HashMap (String Y) ℕ S) (e t : IdBytes) → t ≡ e → (w : Option ℕ)
      → UpdatesBy string_eq (λ k. bytes_eq t (string_bytes k)) m n w
      → (q : IdBytes) → lookup (text_eq q) (named n.entries) ≡ cond (text_eq e q) w (lookup (text_eq q) (named m.entries))
  updates-text m n e t same w h q =
      lookup-named n.entries q ∙ hash_map_updates_text t m n w h q
      ∙ ap (λ x. cond (text_eq x q) w (lookup (λ k. bytes_eq q (string_bytes k)) m.entries)) same
      ∙ ap (cond (text_eq e q) w) (sym (lookup-named m.entries q))
