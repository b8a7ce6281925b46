-- What is seen of a class.
use Rattle.cml_explore.specs.declared.classes.Class.{Class}
use Rattle.cml_explore.specs.Classes.{PlainClass}

abbrev pub plain_class : Class → PlainClass
plain_class c = record { details = c.details.now; summary = c.summary.now }
