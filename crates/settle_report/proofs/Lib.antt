mod Became
