mod NameLaws
mod FieldLaws
mod MethodLaws
