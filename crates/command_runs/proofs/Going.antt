-- A loop over commands: what holds between two of them, and how one more is added.
use Rattle.std.proofs.Common.{◌≡◌, ⊎_elim, None, Option, Some, ℕ, zero, suc, ◌+◌, ◌-◌, ◌≤◌, min, List, [], ◌∷◌, ◌++◌, length, take, refl, sym, ◌∙◌}
use Rattle.std.proofs.Common.{ap, subst, append_assoc, length-append, arith}
use Rattle.std.specs.Prelude.{IsTrue}
use Rattle.std.proofs.lemmas.List.{append-nil, take_at, length-take, take-append-le, take_min}
use Rattle.host_port.specs.Host.{Told, MayLeave, GoesOn, Throughout, KeepsDisk, KeepsSaid, AddsPart, disk_now, said_now, CrashLeaves}
use Rattle.host_port.proofs.Course.{carry_on, keeps_disk_on, told_next, still_disk, still_said, adds_none, said_kept_now}
use Rattle.command_runs.specs.Runs.{Answer, listed, replies, events, events_due}
use Rattle.command_runs.specs.Crashes.{StandsForAtLeast, IsRunning, IsStepping}
use Rattle.command_runs.proofs.RunLaws.{replies-append, events-append, events_due-within, replies-more, events-more}

-- Between two commands: these answers are given and the others are left. What they print is printed, and what they make stands.
-- At each moment since the entry a prefix of the whole run's replies was printed and a crash leaves what it may. Where the whole run
-- makes no event, the disk stayed.
pub record Going {E : Type 0} (stands : List ℕ → List E → Type 0) (entry now : Told) (first : List E) (whole left : List (Answer E))
    (rests : List E → Type 0) : Type 0 where
  pub done : List (Answer E)
  pub whole_is : whole ≡ done ++ left
  pub said : said_now now ≡ said_now entry ++ replies done
  pub rest : rests (first ++ events done)
  pub part : Throughout entry now (λ disk said. AddsPart (said_now entry) (replies whole) said)
  pub moments : Throughout entry now (IsRunning stands first (events whole) (events_due whole) (said_now entry))
  pub still : events whole ≡ [] → KeepsDisk entry now

-- what one command does at each of its moments
pub record Steps {E : Type 0} (stands : List ℕ → List E → Type 0) (a b : Told) (answer : Answer E) (rests : List E → Type 0) : Type 0 where
  pub course : GoesOn a b
  pub part : Throughout a b (λ disk said. AddsPart (said_now a) answer.reply said)
  pub moments : (first : List E) → rests first → Throughout a b (IsStepping stands first answer.event (said_now a))
  pub still : answer.event ≡ None → KeepsDisk a b

-- an answer that adds no event to a list has none
unlisted : {E : Type 0} (event : Option E) → length (listed event) ≡ 0 → event ≡ None
unlisted None none = refl
unlisted (Some e) none = absurd (omega (arith, none))

pub take_past : (xs ys : List ℕ) (m n : ℕ) → m ≡ length xs + n → take m (xs ++ ys) ≡ xs ++ take n ys
take_past [] ys m n is = let same : m ≡ n = omega arith in ap (λ (k : ℕ). take k ys) same
take_past (x ∷ xs) ys zero n is = absurd (omega arith)
take_past (x ∷ xs) ys (suc m) n is = ap (λ (l : List ℕ). x ∷ l) (take_past xs ys m n (omega arith))

module _ {E : Type 0} (stands : List ℕ → List E → Type 0) where
  -- the file stands for the events so far, while no more replies than those so far are begun
  pub among : (first : List E) (whole done left : List (Answer E)) (x : List ℕ) (n : ℕ) → whole ≡ done ++ left → n ≤ length (replies done)
      → stands x (first ++ events done) → StandsForAtLeast stands first (events whole) (events_due whole n) x
  among first whole done left x n is within stood =
      let split : events whole ≡ events done ++ events left = ap events is ∙ events-append done left in
      record {
        count = length (events done);
        least_is = subst (λ (l : List (Answer E)). events_due l n ≤ length (events done)) (sym is) (events_due-within done left n within);
        most_is = omega (arith, ap length split, length-append (events done) (events left));
        stands_for = subst (λ (l : List E). stands x (first ++ l)) (sym (ap (λ (l : List E). take (length (events done)) l) split
            ∙ take_at (events done) (events left) (length (events done)) refl)) stood;
      }

  module _ (entry : Told) (first : List E) (whole : List (Answer E)) where
    -- before the first command
    pub begins : (rests : List E → Type 0) → (rests first → CrashLeaves (λ x. stands x first) (disk_now entry)) → rests first
        → Going stands entry entry first whole whole rests
    begins rests leaves rest = record {
      done = [];
      whole_is = refl;
      said = sym (append-nil (said_now entry));
      rest = subst rests (sym (append-nil first)) rest;
      part = adds_none entry entry (replies whole) (still_said entry);
      moments = λ told t low high x left. among first whole [] whole x (length (entry.said t) - length (said_now entry)) refl
          (omega (arith, ap length (still_said entry told t low high)))
          (subst (λ (l : List E). stands x l) (sym (append-nil first)) (leaves rest x (subst (λ d. MayLeave d x) (still_disk entry told t low high) left)));
      still = λ none. still_disk entry;
    }

    module _ (a b : Told) (left : List (Answer E)) (rests : List E → Type 0) (going : Going stands entry a first whole left rests)
        (course : GoesOn entry a) where
      -- calls that write and print nothing
      pub quietly : GoesOn a b → KeepsDisk a b → KeepsSaid a b → ((events : List E) → rests events → CrashLeaves (λ x. stands x events) (disk_now a))
          → IsTrue entry.tells → (rests_next : List E → Type 0) → ((events : List E) → rests events → rests_next events)
          → Going stands entry b first whole left rests_next
      quietly on disk said leaves told rests_next stays = record {
        done = going.done;
        whole_is = going.whole_is;
        said = said_kept_now a b on said (told_next entry a course told) ∙ going.said;
        rest = stays (first ++ events going.done) going.rest;
        part = quiet_part on said;
        moments = quiet_moments on disk said leaves;
        still = λ none. keeps_disk_on entry a b course on (going.still none) disk;
      }
        where
          quiet_part : GoesOn a b → KeepsSaid a b → Throughout entry b (λ disk said. AddsPart (said_now entry) (replies whole) said)
          quiet_part on said = carry_on entry a b (λ disk said. AddsPart (said_now entry) (replies whole) said) course on going.part
              (λ told t low high. let p = going.part (subst IsTrue course.tells told) a.clock course.clock (omega arith) in (p.0, said told t low high ∙ p.1))

          quiet_moments : GoesOn a b → KeepsDisk a b → KeepsSaid a b → ((events : List E) → rests events → CrashLeaves (λ x. stands x events) (disk_now a))
              → Throughout entry b (IsRunning stands first (events whole) (events_due whole) (said_now entry))
          quiet_moments on disk said leaves =
              carry_on entry a b (IsRunning stands first (events whole) (events_due whole) (said_now entry)) course on going.moments
              (λ told t low high x left_there. among first whole going.done left x (length (b.said t) - length (said_now entry)) going.whole_is
              (omega (arith, ap length (said told t low high), ap length going.said, length-append (said_now entry) (replies going.done)))
              (leaves (first ++ events going.done) going.rest x (subst (λ d. MayLeave d x) (disk told t low high) left_there)))

      -- a command, and what it does
      module _ (answer : Answer E) (next : List (Answer E)) (left_is : left ≡ answer ∷ next) (steps : Steps stands a b answer rests) where
        pub answers_more : whole ≡ (going.done ++ answer ∷ []) ++ next
        answers_more = going.whole_is ∙ ap (λ (l : List (Answer E)). going.done ++ l) left_is ∙ sym (append_assoc going.done (answer ∷ []) next)

        replies_whole : replies whole ≡ replies going.done ++ (answer.reply ++ replies next)
        replies_whole = ap replies answers_more ∙ replies-append (going.done ++ answer ∷ []) next
            ∙ ap (λ (l : List ℕ). l ++ replies next) (replies-more going.done answer) ∙ append_assoc (replies going.done) answer.reply (replies next)

        part_here : Throughout a b (λ disk said. AddsPart (said_now entry) (replies whole) said)
        part_here told t low high =
            let p = steps.part told t low high in
            let k = min p.0 (length answer.reply) in
            let cut : take (length (replies going.done) + k) (replies whole) ≡ replies going.done ++ take p.0 answer.reply =
            ap (λ (l : List ℕ). take (length (replies going.done) + k) l) replies_whole
            ∙ take_past (replies going.done) (answer.reply ++ replies next) (length (replies going.done) + k) k refl
            ∙ ap (λ (l : List ℕ). replies going.done ++ l) (take-append-le k answer.reply (replies next) (omega arith) ∙ take_min p.0 answer.reply) in (
              length (replies going.done) + k,
              p.1 ∙ ap (λ (l : List ℕ). l ++ take p.0 answer.reply) going.said ∙ append_assoc (said_now entry) (replies going.done) (take p.0 answer.reply)
                  ∙ ap (λ (l : List ℕ). said_now entry ++ l) (sym cut),
            )

        moments_here : Throughout a b (IsRunning stands first (events whole) (events_due whole) (said_now entry))
        moments_here told t low high x left_there =
            let p = steps.part told t low high in
            ⊎_elim
            (λ (old, same). among first whole going.done left x (length (b.said t) - length (said_now entry)) going.whole_is
            (omega (arith, ap length same, ap length going.said, length-append (said_now entry) (replies going.done))) old)
            (λ new. among first whole (going.done ++ answer ∷ []) next x (length (b.said t) - length (said_now entry)) answers_more
            (omega (
              arith,
              ap length p.1,
              ap length going.said,
              length-append (said_now entry) (replies going.done),
              length-append (said_now a) (take p.0 answer.reply),
              length-take p.0 answer.reply,
              ap length (replies-more going.done answer),
              length-append (replies going.done) answer.reply,
            ))
            (subst (λ (l : List E). stands x l)
            (append_assoc first (events going.done) (listed answer.event) ∙ ap (λ (l : List E). first ++ l) (sym (events-more going.done answer)))
            new))
            (steps.moments (first ++ events going.done) going.rest told t low high x left_there)

        -- at each moment, whatever it answered
        pub stepped_part : Throughout entry b (λ disk said. AddsPart (said_now entry) (replies whole) said)
        stepped_part = carry_on entry a b (λ disk said. AddsPart (said_now entry) (replies whole) said) course steps.course going.part part_here

        pub stepped_moments : Throughout entry b (IsRunning stands first (events whole) (events_due whole) (said_now entry))
        stepped_moments = carry_on entry a b
            (IsRunning stands first (events whole) (events_due whole) (said_now entry)) course steps.course going.moments moments_here

        -- where the whole run makes no event, this answer makes none
        pub makes_none : events whole ≡ [] → answer.event ≡ None
        makes_none none =
            unlisted answer.event (omega (
              arith,
              ap length none,
              ap length (ap events answers_more ∙ events-append (going.done ++ answer ∷ []) next),
              length-append (events (going.done ++ answer ∷ [])) (events next),
              ap length (events-more going.done answer),
              length-append (events going.done) (listed answer.event),
            ))

        pub stepped_still : events whole ≡ [] → KeepsDisk entry b
        stepped_still none = keeps_disk_on entry a b course steps.course (going.still none) (steps.still (makes_none none))

        -- and where its reply was printed
        pub one_more : (rests_next : List E → Type 0) → said_now b ≡ said_now a ++ answer.reply
            → ((made : List E) → rests made → rests_next (made ++ listed answer.event)) → Going stands entry b first whole next rests_next
        one_more rests_next said added = record {
          done = going.done ++ answer ∷ [];
          whole_is = answers_more;
          said = said ∙ ap (λ (l : List ℕ). l ++ answer.reply) going.said ∙ append_assoc (said_now entry) (replies going.done) answer.reply
              ∙ ap (λ (l : List ℕ). said_now entry ++ l) (sym (replies-more going.done answer));
          rest = subst rests_next
              (append_assoc first (events going.done) (listed answer.event) ∙ ap (λ (l : List E). first ++ l) (sym (events-more going.done answer)))
              (added (first ++ events going.done) going.rest);
          part = stepped_part;
          moments = stepped_moments;
          still = stepped_still;
        }
