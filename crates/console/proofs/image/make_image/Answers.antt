use Rattle.std.proofs.Common.{◌≡◌, ◌*◌, ◌/◌, length, sym, ap, ◌∙◌, subst, arith}
use Rattle.devices.specs.Flat.{tail}
use Rattle.devices.specs.Meaning.{Meaning}
use Rattle.volume.specs.Formatting.{Lawful, Formatted}
use Rattle.volume.specs.NewLayout.{NewLayout}
use Rattle.console.specs.Images.{blank, image_meaning}
use Rattle.console.proofs.Lengths.{same_length}
use Rattle.console.proofs.image.make_image.Goals as goal

-- the image has as many sectors as were asked for, so format began on the blank image of the clause
pub returns : goal.returns
returns c =
    let T = c.args.sectors in
    let name = c.args.name.now in
    let image = c.in_ok-image.image in
    let last = c.format.new.device in
    let done = c.in_ok-volume.ensures in
    let all : c.min.result ≡ T = omega (arith, c.min.ensures, done.done.0.most) in
    let began : image_meaning image ≡ blank T = c.in_ok-image.ensures.0 ∙ ap blank all in
    let Filled : Meaning → Type 0 = λ m. Lawful m T name c.args.allocation × Formatted m (image_meaning last) T name × NewLayout m (image_meaning last).sector T name in
    let filled = subst Filled began (done.done.0, done.done.2, done.reads) in
    let rest : tail last.bytes.items ≡ tail image.bytes.items = cc done.beside in
    let was : length image.bytes.items ≡ T * 256 = sym image.bytes.ok.0 ∙ c.in_ok-image.ensures.1 ∙ ap (λ n. n * 256) all in
    let count : length last.bytes.items / 256 ≡ T = ap (λ n. n / 256) (sym last.bytes.ok.0) ∙ filled.1.kept.0 ∙ omega arith in
    record {
      lawful = filled.0;
      long = last.bytes.ok.0 ∙ same_length image.bytes.items last.bytes.items T was count rest;
      formatted = filled.1;
      layout = filled.2;
      fresh = done.done.3;
    }
