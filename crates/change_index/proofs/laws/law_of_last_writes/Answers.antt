-- by the law of histories
use Rattle.std.proofs.Common.{ℕ, suc, ◌<◌, List, [], ◌∷◌, ◌++◌, take, sym, subst, arith}
use Rattle.std.specs.Prelude.{All}
use Rattle.std.proofs.lemmas.List.Elements.{All-weaker, All-contains}
use Rattle.history_tree.specs.History.{path}
use Rattle.history_tree.specs.States.{package_of_version}
use Rattle.history_tree.specs.Laws.{Rises, LeadsTo}
use Rattle.change_index.specs.Written.{wrote}
use Rattle.change_index.specs.Index.{wrote_in, index_of}
use Rattle.change_index.proofs.Lists.{upto_last}
use Rattle.change_index.proofs.Asking.{last_found, last_same, last_one, length-first, wrote_in-first, index_of-push}
use Rattle.change_index.proofs.Staying.{last_write_stays}
use Rattle.change_index.proofs.laws.law_of_last_writes.Goals as goal

-- no number of a path is above its version
path_low : (v n : ℕ) (us : List ℕ) → LeadsTo v us → v < n → All (λ u. u < n) us
path_low v n us leads low =
    let whole = leads.last.1 in
    subst (λ l. All (λ u. u < n) l) (sym whole)
    (All-weaker (λ u. u < suc v) (λ u. u < n) (λ u upto. omega (arith, upto, low)) (leads.last.0 ++ v ∷ [])
    (upto_last leads.last.0 v (subst Rises whole leads.rises)))

pub returns-clause-added : goal.returns-clause-added
returns-clause-added c = index_of-push

pub returns-clause-asked : goal.returns-clause-asked
returns-clause-asked c meta h whole n v many low =
    let leads = c.law_of_histories.ensures.lead h whole v (omega (arith, many, low)) in
    (leads.rises, subst (λ k. All (λ u. u < k) (path h v)) (sym (length-first meta h.versions n many)) (path_low v n (path h v) leads low))

pub returns-clause-last : goal.returns-clause-last
returns-clause-last c meta h whole n v many low e f o last =
    let leads = c.law_of_histories.ensures.lead h whole v (omega (arith, many, low)) in
    last_same (wrote_in (index_of meta (take n h.versions)) e f) (λ u. wrote meta (package_of_version h.versions u) e f) (path h v)
    (λ u there. wrote_in-first meta h.versions n u (All-contains (λ w. w < n) (path h v) u (path_low v n (path h v) leads low) there) e f)
    o last

pub returns-clause-one : goal.returns-clause-one
returns-clause-one c = last_one

pub returns-clause-found : goal.returns-clause-found
returns-clause-found c = last_found

pub returns-clause-stays : goal.returns-clause-stays
returns-clause-stays c = last_write_stays
