mod AnswerLaws
mod MessageLaws
mod NameLaws
mod TextLaws
mod ValueLaws
mod Values
