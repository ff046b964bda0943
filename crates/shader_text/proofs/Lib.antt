mod Distinct
mod Escaped
