use Rattle.std.proofs.Common.{◌∙◌, ap, cond, []}
use Rattle.std.specs.Prelude.{is_some, Option}
use Rattle.std.specs.Option.{option_map_or}
use Rattle.ecore_meta.specs.Names.{Name}
use Rattle.ecore_json.specs.References.{own_name}
use Rattle.ecore_json.proofs.rows.super_name.Goals as goal

-- the name, empty where there is none
abbrev name_or_none : Option Name → Name
name_or_none o = option_map_or (λ n. n) o []

-- the text where it names a class of Ecore, else the name of its own that it has
abbrev told_in : Name → Name → Option Name → Name
told_in own text ecore = cond (is_some ecore) text (name_or_none (own_name own text))

pub returns-in-Some : goal.returns-in-Some
returns-in-Some c =
    ap (told_in c.args.own.now c.args.text.now) c.in-Some.ensures

pub returns-in-None-own_name : goal.returns-in-None-own_name
returns-in-None-own_name c =
    ap name_or_none c.in-None-own_name.ensures
    ∙ ap (told_in c.args.own.now c.args.text.now) c.in-None.ensures

pub returns-in-Some-own_name : goal.returns-in-Some-own_name
returns-in-Some-own_name c =
    ap name_or_none c.in-Some-own_name.ensures
    ∙ ap (told_in c.args.own.now c.args.text.now) c.in-None.ensures
