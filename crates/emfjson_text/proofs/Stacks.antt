-- What is left to write, as the stack changes.
use Rattle.std.proofs.Common.{◌≡◌, ℕ, ◌+◌, ◌<◌, ◌≤◌, List, [], ◌∷◌, ◌++◌, length, sym, ap, ap₂, ◌∙◌, arith, append_assoc, append-nil, length-append, OnOk}
use Rattle.std.specs.Prelude.{Result, Ok, Err}
use Rattle.ecore_meta.specs.Meta.{Meta}
use Rattle.model_state.specs.State.{State}
use Rattle.emfjson_text.specs.declared.frame.Frame.{Frame}
use Rattle.emfjson_text.specs.Frames.{Writes, frame_text, stack_text}

module _ (meta : Meta) (m : State) where
  pub pushed : (fs : List Frame) (f : Frame) → stack_text meta m (fs ++ f ∷ []) ≡ frame_text meta m f ++ stack_text meta m fs
  unfolding stack_text
  pushed [] f = sym (append-nil _)
  pushed (g ∷ fs) f = ap (λ t. t ++ frame_text meta m g) (pushed fs f) ∙ append_assoc (frame_text meta m f) (stack_text meta m fs) (frame_text meta m g)

  -- what is written is all of the text
  pub writes_all : (least : ℕ) (text : List ℕ) (old : List Frame) (before now : List ℕ) → now ≡ before ++ text → least ≤ length text
      → Writes least meta m text old old before now
  writes_all least text old before now is some = record {
    all = ap (λ t. t ++ stack_text meta m old) is ∙ append_assoc before text (stack_text meta m old);
    longer = let e = ap length is ∙ length-append before text in omega arith;
  }

  -- what is written is the head of the text, and a frame holds the rest
  pub writes_push : (text head : List ℕ) (f : Frame) (old new : List Frame) (before now : List ℕ)
      → now ≡ before ++ head → 0 < length head → new ≡ old ++ f ∷ [] → text ≡ head ++ frame_text meta m f → Writes 1 meta m text old new before now
  writes_push text head f old new before now is some push parts = record {
    all =
        ap₂ (λ a b. a ++ b) is (ap (stack_text meta m) push ∙ pushed old f)
        ∙ append_assoc before head (frame_text meta m f ++ stack_text meta m old)
        ∙ ap (λ t. before ++ t) (sym (append_assoc head (frame_text meta m f) (stack_text meta m old)) ∙ ap (λ t. t ++ stack_text meta m old) (sym parts));
    longer = let e = ap length is ∙ length-append before head in omega arith;
  }

  -- the head is written, a frame holds the rest, and what stands between is written or begun
  pub writes_over : {A E : Type 0} (least more : ℕ) (r : Result A E) (text head between : List ℕ) (f : Frame) (old mid new : List Frame)
      (before then_ now : List ℕ)
      → OnOk r (Writes more meta m between mid new then_ now) → least ≤ length head + more → then_ ≡ before ++ head → mid ≡ old ++ f ∷ []
      → text ≡ head ++ (between ++ frame_text meta m f)
      → OnOk r (Writes least meta m text old new before now)
  writes_over least more (Err e) text head between f old mid new before then_ now w enough is push parts = tt
  writes_over least more (Ok a) text head between f old mid new before then_ now w enough is push parts =
      let rest = stack_text meta m old in
      let inner = frame_text meta m f in
      record {
        all =
            w.all
            ∙ ap₂ (λ a b. a ++ (between ++ b)) is (ap (stack_text meta m) push ∙ pushed old f)
            ∙ append_assoc before head (between ++ (inner ++ rest))
            ∙ ap (λ t. before ++ t)
            (ap (λ t. head ++ t) (sym (append_assoc between inner rest)) ∙ sym (append_assoc head (between ++ inner) rest)
            ∙ ap (λ t. t ++ rest) (sym parts));
        longer = let e = ap length is ∙ length-append before head in let l = w.longer in omega arith;
      }

  -- a step leaves less to write, and the whole text as it was
  pub step_all : (f : Frame) (popped new : List Frame) (before now whole : List ℕ) (all : List Frame)
      → Writes 1 meta m (frame_text meta m f) popped new before now
      → all ≡ popped ++ f ∷ [] → before ++ stack_text meta m all ≡ whole → now ++ stack_text meta m new ≡ whole
  step_all f popped new before now whole all w is before_is = w.all ∙ ap (λ t. before ++ t) (sym (ap (stack_text meta m) is ∙ pushed popped f)) ∙ before_is

  pub step_less : (f : Frame) (popped new : List Frame) (before now : List ℕ) (all : List Frame) → Writes 1 meta m (frame_text meta m f) popped new before now
      → all ≡ popped ++ f ∷ [] → length (stack_text meta m new) < length (stack_text meta m all)
  step_less f popped new before now all w is =
      let e = sym (length-append now (stack_text meta m new))
      ∙ ap length (w.all ∙ ap (λ t. before ++ t) (sym (ap (stack_text meta m) is ∙ pushed popped f)))
      ∙ length-append before (stack_text meta m all) in
      let l = w.longer in
      omega arith

  -- with nothing begun, all is written
  pub all_written : (fs : List Frame) (now whole : List ℕ) → length fs ≡ 0 → now ++ stack_text meta m fs ≡ whole → now ≡ whole
  unfolding stack_text
  all_written [] now whole none is = sym (append-nil now) ∙ is
  all_written (f ∷ fs) now whole none is = absurd (omega arith)
