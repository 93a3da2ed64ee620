-- Messages alike in all four numbers are the same message.
use Rattle.std.proofs.Common.{◌≡◌, true, refl, arith}
use Rattle.std.proofs.lemmas.Bool.Decides.{nat_tests}
use Rattle.mail.specs.Collections.{alike}
use Rattle.mail.specs.Messages.{class_number}
use Rattle.mail.specs.declared.message.Class.{Class}
use Rattle.mail.specs.declared.message.Class.TheVariants.{Request, Reply}
use Rattle.mail.specs.declared.message.Message.{Message}

same_class : (a b : Class) → class_number a ≡ class_number b → a ≡ b
same_class Request Request e = refl
same_class Request Reply e = absurd (omega arith)
same_class Reply Request e = absurd (omega arith)
same_class Reply Reply e = refl

pub alike_same : (m x : Message) → alike m x ≡ true → m ≡ x
alike_same m x h =
    let receiver : m.receiver ≡ x.receiver = grind (arith, nat_tests, h) in
    let sender : m.sender ≡ x.sender = grind (arith, nat_tests, h) in
    let class = same_class m.class x.class (grind (arith, nat_tests, h)) in
    let node : m.node ≡ x.node = grind (arith, nat_tests, h) in
    λ i. record { receiver = receiver i; sender = sender i; class = class i; node = node i }

pub alike-itself : (m : Message) → alike m m ≡ true
alike-itself m = grind (arith, nat_tests)
