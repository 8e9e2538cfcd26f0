use Rattle.std.proofs.Common.{◌≡◌, refl, ℕ, List, [], ◌∷◌, ◌++◌, IfOk, string_bytes, sym, ap, ◌∙◌, subst, append_assoc, codes, decimal}
use Rattle.std.proofs.Math.Utf8.{encode}
use Rattle.std.specs.Fmt.{digits}
use Rattle.files.specs.CallFaults.{of_volume, refusal_text as call_text}
use Rattle.rules.specs.Letters.{letter}
use Rattle.rules.specs.declared.rule.Rule.{Rule}
use Rattle.rules.specs.declared.rule.Rule.TheVariants as rule
use Rattle.damages.specs.Answers.{refusal_text, broken_text}
use Rattle.damages.proofs.answer.refusal_line.Goals as goal

-- a letter is one byte
encode_letter : (r : Rule) → letter r ∷ [] ≡ encode (letter r)
unfolding encode
encode_letter rule.A = refl
encode_letter rule.B = refl
encode_letter rule.C = refl
encode_letter rule.D = refl
encode_letter rule.E = refl
encode_letter rule.F = refl
encode_letter rule.G = refl
encode_letter rule.H = refl

-- the rule's letter stands behind the line of the refusal
pub returns-in-Broken : goal.returns-in-Broken
unfolding digits
returns-in-Broken c =
    let label = c.args.label.now in
    let at = c.in-Broken.sector in
    let r = c.in-Broken.rule in
    let joined : label ++ (codes ": " ++ (call_text c.from-refusal.result ++ (codes " " ++ (letter r ∷ [])))) ≡ broken_text label at (letter r) =
    ap (λ f. label ++ (codes ": " ++ (call_text f ++ (codes " " ++ (letter r ∷ []))))) (c.from-refusal.ensures ∙ ap of_volume c.in-Broken.is)
    ∙ ap (λ t. label ++ (codes ": refused 22 " ++ t)) (append_assoc (decimal at) (codes " volume") (codes " " ++ (letter r ∷ [])))
    ∙ ap (λ t. label ++ (codes ": refused 22 " ++ (decimal at ++ (codes " volume " ++ t)))) (encode_letter r) in
    subst (λ (t : List ℕ). IfOk c.format.result (λ s. string_bytes s ≡ t)) (joined ∙ ap (refusal_text label) (sym c.in-Broken.is)) c.format.ensures.ok
